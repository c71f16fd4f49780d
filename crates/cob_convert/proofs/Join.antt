-- Two conversions one behind the other are one.
use Rattle.std.proofs.Common.{◌≡◌, ℕ, ◌+◌, ◌≤◌, true, false, List, [], ◌∷◌, ◌++◌, length, refl, sym, ap, subst, ◌∙◌, append_assoc, arith, inl, inr, Ok, Err, Result}
use Rattle.std.proofs.Math.ListN.{length-append}
use Rattle.std.proofs.lemmas.List.{map-append}
use Rattle.std.proofs.lemmas.Grind.{flat_map-append}
use Rattle.std.specs.List.{AllByRecursion, flat_map}
use Rattle.cob_records.specs.declared.records.Form.{Form}
use Rattle.cob_records.specs.declared.records.Form.TheVariants.{Fixed, Variable, Blocked}
use Rattle.cob_records.specs.Blocks.{joined}
use Rattle.cob_records.specs.Forms.{Come, ComesFirst, FormsAreFrames, written_of}
use Rattle.cob_records.specs.Frame.{framed, is_unblocked}
use Rattle.cob_convert_record.specs.Conversion.{Conversion}
use Rattle.cob_convert_stream.specs.declared.fault.Reason.{Reason}
use Rattle.cob_convert_stream.specs.declared.fault.RunFault.{RunFault}
use Rattle.cob_convert_stream.specs.Input.{Remains, records_in}
use Rattle.cob_convert_stream.specs.Reasons.{reason_of}
use Rattle.cob_convert.specs.Converted.{Converted}
use Rattle.cob_convert.specs.Run.{Ends, IsConverted, StopsFor, is_read_stop, is_write_stop, most_records, records_out}
use Rattle.cob_convert.specs.Unique.{ConversionIsOne}
use Rattle.cob_convert.proofs.Headline.{not_in_write}
use Rattle.cob_convert.specs.Pieces.{AreConverted, AreJoined, ConversionsJoin, counted_on, last_number}

-- ---- what comes

-- a record comes first, whatever stands behind
first_before : (form : Form) (left : ℕ) (body bytes : List ℕ) (after : ℕ) (rest more : List ℕ) → ComesFirst form left body bytes after rest
    → ComesFirst form left body (bytes ++ more) after (rest ++ more)
first_before Fixed left body bytes after rest more (frame, is) = (ap (λ (xs : List ℕ). xs ++ more) frame ∙ append_assoc body rest more, is)
first_before Variable left body bytes after rest more (frame, is) =
    (ap (λ (xs : List ℕ). xs ++ more) frame ∙ append_assoc (framed Variable body) rest more, is)
first_before (Blocked most) left body bytes after rest more (room, lead, leads, frame, is) = (
  room,
  lead,
  leads,
  ap (λ (xs : List ℕ). xs ++ more) frame ∙ append_assoc lead (framed Variable body ++ rest) more
      ∙ ap (λ (xs : List ℕ). lead ++ xs) (append_assoc (framed Variable body) rest more),
  is,
)

-- records that come to the end of bytes, and then those that come of what stands behind
come_joined : (form : Form) (left : ℕ) (xs ys : List (List ℕ)) (front : List ℕ) (mid : ℕ) (end behind : List ℕ) (after : ℕ) (rest : List ℕ) → end ≡ []
    → Come form left xs front mid end → Come form mid ys behind after rest → Come form left (xs ++ ys) (front ++ behind) after rest
come_joined form left [] ys front mid end behind after rest none (same, is) come =
    subst (λ (bytes : List ℕ). Come form left ys (bytes ++ behind) after rest) (sym (same ∙ none)) (subst (λ (m : ℕ). Come form m ys behind after rest) is come)
come_joined form left (x ∷ xs) ys front mid end behind after rest none (m, more, first, tail) come =
    (m, more ++ behind, first_before form left x front m more behind first, come_joined form m xs ys more mid end behind after rest none tail come)

-- ---- the records of both

all_joined : {X : Type 0} (P : X → Type 0) (xs ys : List X) → AllByRecursion P xs → AllByRecursion P ys → AllByRecursion P (xs ++ ys)
all_joined P [] ys one two = two
all_joined P (x ∷ xs) ys one two = (one.0, all_joined P xs ys one.1 two)

-- without blocks, what is written of both is what is written of the one, and then of the other
written_joined : FormsAreFrames → (form : Form) (xs ys : List (List ℕ)) → is_unblocked form ≡ true → written_of form (xs ++ ys) ≡ written_of form xs ++ written_of form ys
written_joined law form xs ys unblocked =
    law.written form (xs ++ ys) unblocked ∙ flat_map-append (framed form) xs ys ∙ ap (λ (bytes : List ℕ). bytes ++ flat_map (framed form) ys) (sym (law.written form xs unblocked))
    ∙ ap (λ (bytes : List ℕ). written_of form xs ++ bytes) (sym (law.written form ys unblocked))

-- ---- the end

-- why the second stops is why both stop
stops_behind : (conversion : Conversion) (n m : ℕ) (at : Remains) (why : Reason) → n + (m + 1) ≤ most_records → StopsFor conversion m at why → StopsFor conversion (n + m) at why
stops_behind conversion n m at why few (inl limit) = absurd (omega (arith, few, limit.limit))
stops_behind conversion n m at why few (inr (low, stops)) = inr (omega (arith, few), stops)

-- the end of the second is that of both
ends_joined : (conversion : Conversion) (xs ys : List (List ℕ × List ℕ)) (at : Remains) (second : List ℕ) (number : ℕ) (last : Result ℕ RunFault) → number ≡ length xs
    → Ends conversion ys at second [] last → is_write_stop last ≡ false → number + last_number last ≤ most_records
    → Ends conversion (xs ++ ys) at (written_of conversion.out_form (records_out (xs ++ ys))) []
    (counted_on number (length (written_of conversion.out_form (records_out (xs ++ ys)))) last)
ends_joined conversion xs ys at second number (Ok more) many ends wrote few =
    let count : length (xs ++ ys) ≡ number + length ys = length-append xs ys ∙ ap (λ (n : ℕ). n + length ys) (sym many) in
    record {
      count = ap (λ (n : ℕ). number + n) ends.count ∙ sym count;
      input = record { below = omega (arith, count, few, ends.count); closed = ends.input.closed; none = ends.input.none; rest = ends.input.rest };
      all = refl;
      nothing = refl;
    }
ends_joined conversion xs ys at second number (Err fault) many ends wrote few =
    let count : length (xs ++ ys) ≡ number + length ys = length-append xs ys ∙ ap (λ (n : ℕ). n + length ys) (sym many) in
    elim ends.stops [
      | inl s ↦ record {
        written = omega arith;
        stops = inl (record {
          stops = subst (λ (n : ℕ). StopsFor conversion n at (reason_of fault)) (sym count)
              (stops_behind conversion number (length ys) at (reason_of fault) (omega (arith, few, s.next)) s.stops);
          next = omega (arith, count, s.next);
          all = refl;
          nothing = refl;
        });
      }
      | inr s ↦ absurd (not_in_write conversion ys at second [] fault s wrote)
    ]

read_on : (number sent : ℕ) (last : Result ℕ RunFault) → is_read_stop last ≡ false → is_read_stop (counted_on number sent last) ≡ false
read_on number sent (Ok more) none = refl
read_on number sent (Err fault) none = none

wrote_on : (number sent : ℕ) (last : Result ℕ RunFault) → is_write_stop last ≡ false → is_write_stop (counted_on number sent last) ≡ false
wrote_on number sent (Ok more) none = refl
wrote_on number sent (Err fault) none = none

-- ---- whole runs

-- what both write
abbrev sent_of : Conversion → (xs ys : List (List ℕ × List ℕ)) → List ℕ
sent_of conversion xs ys = written_of conversion.out_form (records_out (xs ++ ys))

-- both conversions are one of all the bytes
converted_both : (conversion : Conversion) (front behind rest first second : List ℕ) (number : ℕ) (last : Result ℕ RunFault) (one : Converted conversion front [] first (Ok number))
    (two : Converted conversion behind rest second last) → number + last_number last ≤ most_records
    → Converted conversion (front ++ behind) rest (sent_of conversion one.pairs two.pairs) (counted_on number (length (sent_of conversion one.pairs two.pairs)) last)
converted_both conversion front behind rest first second number last one two few =
    let come : Come conversion.in_form 0 (records_in one.pairs ++ records_in two.pairs) (front ++ behind) two.opened two.left =
    come_joined conversion.in_form 0 (records_in one.pairs) (records_in two.pairs) front one.opened one.left behind two.opened two.left one.ends.input.none one.come
    (subst (λ (opened : ℕ). Come conversion.in_form opened (records_in two.pairs) behind two.opened two.left) (sym one.ends.input.closed) two.come) in
    record {
      pairs = one.pairs ++ two.pairs;
      opened = two.opened;
      left = two.left;
      come = subst (λ (bodies : List (List ℕ)). Come conversion.in_form 0 bodies (front ++ behind) two.opened two.left)
          (sym (map-append (λ (pair : List ℕ × List ℕ). pair.0) one.pairs two.pairs)) come;
      each = all_joined (IsConverted conversion) one.pairs two.pairs one.each two.each;
      output = refl;
      ends = ends_joined conversion one.pairs two.pairs (record { opened = two.opened; left = two.left; rest = rest }) second number last one.ends.count two.ends two.wrote few;
      read = read_on number (length (sent_of conversion one.pairs two.pairs)) last two.read;
      wrote = wrote_on number (length (sent_of conversion one.pairs two.pairs)) last two.wrote;
    }

both_out : (xs ys : List (List ℕ × List ℕ)) → records_out (xs ++ ys) ≡ records_out xs ++ records_out ys
both_out xs ys = map-append (λ (pair : List ℕ × List ℕ). pair.1) xs ys

-- without blocks, both write what the one wrote, and then what the other wrote
both_bytes : FormsAreFrames → (conversion : Conversion) (xs ys : List (List ℕ × List ℕ)) (first second : List ℕ) → first ≡ written_of conversion.out_form (records_out xs)
    → second ≡ written_of conversion.out_form (records_out ys) → is_unblocked conversion.out_form ≡ true → sent_of conversion xs ys ≡ first ++ second
both_bytes law conversion xs ys first second one two unblocked =
    ap (written_of conversion.out_form) (both_out xs ys) ∙ written_joined law conversion.out_form (records_out xs) (records_out ys) unblocked
    ∙ ap (λ (bytes : List ℕ). bytes ++ written_of conversion.out_form (records_out ys)) (sym one) ∙ ap (λ (bytes : List ℕ). first ++ bytes) (sym two)

are_joined : FormsAreFrames → (conversion : Conversion) (front behind rest first second : List ℕ) (number : ℕ) (last : Result ℕ RunFault)
    (one : Converted conversion front [] first (Ok number)) (two : Converted conversion behind rest second last) (written : List ℕ) (answer : Result ℕ RunFault)
    → written ≡ sent_of conversion one.pairs two.pairs → answer ≡ counted_on number (length (sent_of conversion one.pairs two.pairs)) last
    → AreJoined conversion (records_out one.pairs) (records_out two.pairs) first second number last written answer
are_joined law conversion front behind rest first second number last one two written answer same answers = record {
  records = same ∙ ap (written_of conversion.out_form) (both_out one.pairs two.pairs);
  bytes = λ unblocked. same ∙ both_bytes law conversion one.pairs two.pairs first second one.output two.output unblocked;
  answered = answers ∙ ap (λ (bytes : List ℕ). counted_on number (length bytes) last) (sym same);
}

-- ---- any pieces

last_on : (number sent : ℕ) (last : Result ℕ RunFault) → last_number (counted_on number sent last) ≡ number + last_number last
last_on number sent (Ok more) = omega arith
last_on number sent (Err fault) = refl

pieces_joined : FormsAreFrames → (conversion : Conversion) (pieces : List (List ℕ)) (last rest written : List ℕ) (answer : Result ℕ RunFault) → is_unblocked conversion.out_form ≡ true
    → AreConverted conversion pieces last rest written answer → last_number answer ≤ most_records → Converted conversion (joined pieces ++ last) rest written answer
pieces_joined law conversion [] last rest written answer unblocked run few = run
pieces_joined law conversion (piece ∷ pieces) last rest written answer unblocked (first, second, number, behind, one, more, bytes, answers) few =
    let counts : last_number answer ≡ number + last_number behind = ap last_number answers ∙ last_on number (length written) behind in
    let two = pieces_joined law conversion pieces last rest second behind unblocked more (omega (arith, counts, few)) in
    let all = converted_both conversion piece (joined pieces ++ last) rest first second number behind one two (omega (arith, counts, few)) in
    let sent : sent_of conversion one.pairs two.pairs ≡ written =
    both_bytes law conversion one.pairs two.pairs first second one.output two.output unblocked ∙ sym bytes in
    let same : counted_on number (length (sent_of conversion one.pairs two.pairs)) behind ≡ answer =
    ap (λ (bs : List ℕ). counted_on number (length bs) behind) sent ∙ sym answers in
    subst (λ (bs : List ℕ). Converted conversion bs rest written answer) (sym (append_assoc piece (joined pieces) last))
    (subst (λ (bs : List ℕ). Converted conversion (piece ++ (joined pieces ++ last)) rest bs answer) sent
    (subst (λ (r : Result ℕ RunFault). Converted conversion (piece ++ (joined pieces ++ last)) rest (sent_of conversion one.pairs two.pairs) r) same all))

pub conversions_join : FormsAreFrames → ConversionIsOne → ConversionsJoin
conversions_join law unique = record {
  both = λ conversion front behind rest first second number last one two few. (
    sent_of conversion one.pairs two.pairs,
    counted_on number (length (sent_of conversion one.pairs two.pairs)) last,
    converted_both conversion front behind rest first second number last one two few,
    are_joined law conversion front behind rest first second number last one two (sent_of conversion one.pairs two.pairs)
        (counted_on number (length (sent_of conversion one.pairs two.pairs)) last) refl refl,
  );
  only = λ conversion front behind rest over first second written number last answer one two few has block whole.
      let (outputs, answers, rests) = unique conversion (front ++ behind) over rest written (sent_of conversion one.pairs two.pairs) answer
      (counted_on number (length (sent_of conversion one.pairs two.pairs)) last) has block whole (converted_both conversion front behind rest first second number last one two few) in
      (are_joined law conversion front behind rest first second number last one two written answer outputs answers, rests);
  many = λ conversion pieces last rest written answer unblocked run few. pieces_joined law conversion pieces last rest written answer unblocked run few;
}
