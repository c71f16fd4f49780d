-- What one more part of a stream makes of what has passed.
use Rattle.std.proofs.Common.{◌≡◌, ◌∙◌, ℕ, ◌+◌, ◌-◌, ◌<◌, List, [], ◌∷◌, ◌++◌, length, take, drop, refl, sym, ap, subst, append_assoc, append-nil, arith, min}
use Rattle.std.proofs.Math.ListN.{length-append}
use Rattle.std.proofs.Math.Seq.{take-add}
use Rattle.std.proofs.lemmas.Grind.{common_steps}
use Rattle.std.proofs.lemmas.List.Elements.{All-append}
use Rattle.cob_records.specs.declared.records.Form.{Form}
use Rattle.cob_records.specs.declared.records.Form.TheVariants.{Fixed, Variable, Blocked}
use Rattle.cob_records.specs.declared.place.StreamPlace.{StreamPlace}
use Rattle.cob_records.specs.declared.place.StreamPlace.TheVariants as place
use Rattle.cob_records.specs.Device.{greatest_count}
use Rattle.cob_records.specs.Forms.{Come, ComesFirst}
use Rattle.cob_records.specs.Frame.{IsRecord, descriptor, framed}
use Rattle.cob_records.specs.Progress.{BeginsWithFrame, Counts, IsAt, IsBegun, IsBegunBehind, IsLost, kept_count}

-- ---- records one behind another

-- what comes first, followed by more
first_more : (form : Form) (left after : ℕ) (body bytes rest part : List ℕ) → ComesFirst form left body bytes after rest
    → ComesFirst form left body (bytes ++ part) after (rest ++ part)
first_more Fixed left after body bytes rest part (is, same) = (ap (λ xs. xs ++ part) is ∙ append_assoc body rest part, same)
first_more Variable left after body bytes rest part (is, same) = (ap (λ xs. xs ++ part) is ∙ append_assoc (framed Variable body) rest part, same)
first_more (Blocked most) left after body bytes rest part (room, lead, leads, is, size) = (
  room,
  lead,
  leads,
  ap (λ xs. xs ++ part) is ∙ append_assoc lead (framed Variable body ++ rest) part ∙ ap (λ xs. lead ++ xs) (append_assoc (framed Variable body) rest part),
  size,
)

-- records that come, followed by more
come_more : (form : Form) (left after : ℕ) (bodies : List (List ℕ)) (bytes rest part : List ℕ) → Come form left bodies bytes after rest
    → Come form left bodies (bytes ++ part) after (rest ++ part)
come_more form left after [] bytes rest part (is, same) = (ap (λ xs. xs ++ part) is, same)
come_more form left after (body ∷ bodies) bytes rest part (mid, more, first, others) =
    (mid, more ++ part, first_more form left mid body bytes more part first, come_more form mid after bodies more rest part others)

-- records that come, and one behind them
come_one : (form : Form) (left mid after : ℕ) (bodies : List (List ℕ)) (body bytes more rest : List ℕ) → Come form left bodies bytes mid more
    → ComesFirst form mid body more after rest → Come form left (bodies ++ body ∷ []) bytes after rest
come_one form left mid after [] body bytes more rest (is, same) first =
    (after, rest, rw (is, ← same) first, (refl, refl))
come_one form left mid after (b ∷ bodies) body bytes more rest (k, xs, one, others) first =
    (k, xs, one, come_one form k mid after bodies body xs more rest others first)

-- ---- frames in part

more_part : (form : Form) (greatest left rest after count : ℕ) (bytes part : List ℕ) → IsBegunBehind form greatest left rest after bytes
    → length part ≡ count → count < rest → IsBegunBehind form greatest left (rest - count) after (bytes ++ part)
more_part form greatest left rest after count bytes part (room, size, lead, front, before, low, high, is, sum, within) len less = (
  room,
  size,
  lead,
  front ++ part,
  before,
  low,
  high,
  ap (λ xs. xs ++ part) is ∙ append_assoc lead (descriptor size ++ front) part ∙ ap (λ xs. lead ++ xs) (append_assoc (descriptor size) front part),
  omega (arith, length-append front part, sum, len, less),
  within,
)

-- a part of a record that is less than the rest of it
pub record_more : (form : Form) (greatest left rest after count : ℕ) (bytes part : List ℕ) → IsBegun form greatest left rest after bytes
    → length part ≡ count → count < rest → IsBegun form greatest left (rest - count) after (bytes ++ part)
record_more Fixed greatest left rest after count bytes part (h, same) len less = (omega (arith, length-append bytes part, h, len, less), same)
record_more Variable greatest left rest after count bytes part h len less = more_part Variable greatest left rest after count bytes part h len less
record_more (Blocked most) greatest left rest after count bytes part h len less = more_part (Blocked most) greatest left rest after count bytes part h len less

-- the bytes of a frame with a descriptor, to the last
whole_part : (size rest : ℕ) (lead front part bytes : List ℕ) → bytes ≡ lead ++ (descriptor size ++ front) → length front + rest ≡ size → length part ≡ rest
    → (length (front ++ part) ≡ size) × (bytes ++ part ≡ lead ++ (framed Variable (front ++ part) ++ []))
whole_part size rest lead front part bytes is sum len =
    let whole : length (front ++ part) ≡ size = omega (arith, length-append front part, sum, len) in (
      whole,
      ap (λ xs. xs ++ part) is ∙ append_assoc lead (descriptor size ++ front) part ∙ ap (λ xs. lead ++ xs) (append_assoc (descriptor size) front part)
          ∙ ap (λ n. lead ++ (descriptor n ++ (front ++ part))) (sym whole) ∙ ap (λ xs. lead ++ xs) (sym (append-nil (framed Variable (front ++ part)))),
    )

-- the rest of a record makes its frame whole
pub record_whole : (form : Form) (greatest left rest after : ℕ) (bytes part : List ℕ) → IsBegun form greatest left rest after bytes → length part ≡ rest
    → (body : List ℕ) × IsRecord form greatest body × ComesFirst form left body (bytes ++ part) after []
record_whole Fixed greatest left rest after bytes part (h, same) len =
    (bytes ++ part, omega (arith, length-append bytes part, h, len), (sym (append-nil (bytes ++ part)), same))
record_whole Variable greatest left rest after bytes part (room, size, lead, front, (none, same), low, high, is, sum, within) len =
    let (whole, frame) = whole_part size rest lead front part bytes is sum len in
    (front ++ part, (omega (arith, whole, low), omega (arith, whole, high)), (frame ∙ ap (λ xs. xs ++ (framed Variable (front ++ part) ++ [])) none, within ∙ same))
record_whole (Blocked most) greatest left rest after bytes part (room, size, lead, front, (leads, four), low, high, is, sum, within) len =
    let (whole, frame) = whole_part size rest lead front part bytes is sum len in
    (front ++ part, (omega (arith, whole, low), omega (arith, whole, high)), (room, lead, leads, frame, omega (arith, within, whole)))

kept_more : (count more now old size : ℕ) → now ≡ kept_count old → size ≡ min (now + more) greatest_count → size ≡ kept_count (old + more)
kept_more count more now old size h e = omega (arith, h, e)

-- bytes that end no record
pub counts_more : (form : Form) (greatest : ℕ) (at next : StreamPlace) (records count more : ℕ) (bytes part : List ℕ) → Counts form greatest at records count bytes
    → ((left : ℕ) (rest : List ℕ) → IsAt form greatest left at rest → IsAt form greatest left next (rest ++ part))
    → more ≡ min (count + length part) greatest_count → Counts form greatest next records more (bytes ++ part)
counts_more form greatest at next records count more bytes part h step e = record {
  bodies = h.bodies;
  left = h.left;
  rest = h.rest ++ part;
  each = h.each;
  all = come_more form 0 h.left h.bodies bytes h.rest part h.all;
  is_at = step h.left h.rest h.is_at;
  counted_records = h.counted_records;
  counted_bytes = kept_more 0 (length part) count (length bytes) more h.counted_bytes e ∙ ap kept_count (sym (length-append bytes part));
}

-- bytes that end a record
pub counts_record : (form : Form) (greatest rest after : ℕ) (next : StreamPlace) (records done count more : ℕ) (bytes part : List ℕ)
    → Counts form greatest (place.Record rest after) records count bytes → length part ≡ rest → IsAt form greatest after next []
    → done ≡ min (records + 1) greatest_count → more ≡ min (count + length part) greatest_count → Counts form greatest next done more (bytes ++ part)
counts_record form greatest rest after next records done count more bytes part h len first one e =
    let (body, is, whole) = record_whole form greatest h.left rest after h.rest part h.is_at len in record {
      bodies = h.bodies ++ body ∷ [];
      left = after;
      rest = [];
      each = All-append (IsRecord form greatest) h.bodies (body ∷ []) h.each (grind (arith, common_steps));
      all = come_one form 0 h.left after h.bodies body (bytes ++ part) (h.rest ++ part) [] (come_more form 0 h.left h.bodies bytes h.rest part h.all) whole;
      is_at = first;
      counted_records = kept_more 0 1 records (length h.bodies) done h.counted_records one ∙ ap kept_count (sym (length-append h.bodies (body ∷ [])));
      counted_bytes = kept_more 0 (length part) count (length bytes) more h.counted_bytes e ∙ ap kept_count (sym (length-append bytes part));
    }

-- what follows where no frame is looked for
pub lost_more : (form : Form) (greatest left : ℕ) (rest part : List ℕ) → IsLost form greatest left rest → IsLost form greatest left (rest ++ part)
lost_more form greatest left rest part lost more begins = lost (part ++ more) (subst (BeginsWithFrame form greatest left) (append_assoc rest part more) begins)

-- the place in a record behind a part of it, or where no frame is looked for
pub record_step : (form : Form) (greatest rest after count : ℕ) (at : StreamPlace) (part : List ℕ) → at ≡ place.Record rest after → length part ≡ count → count < rest
    → (left : ℕ) (bytes : List ℕ) → IsAt form greatest left at bytes → IsAt form greatest left (place.Record (rest - count) after) (bytes ++ part)
record_step form greatest rest after count at part is len less left bytes h =
    record_more form greatest left rest after count bytes part (subst (λ p. IsAt form greatest left p bytes) is h) len less

pub lost_step : (form : Form) (greatest : ℕ) (at : StreamPlace) (part : List ℕ) → at ≡ place.Lost → (left : ℕ) (rest : List ℕ) → IsAt form greatest left at rest
    → IsAt form greatest left place.Lost (rest ++ part)
lost_step form greatest at part is left rest h = lost_more form greatest left rest part (subst (λ p. IsAt form greatest left p rest) is h)

pub whole_take : (count : ℕ) (xs : List ℕ) → count ≡ length xs → length (take count xs) ≡ length xs
whole_take count xs e = grind (arith, common_steps)

-- what has passed behind one more piece of a slice
pub counts_take : (form : Form) (greatest : ℕ) (at : StreamPlace) (records count i n : ℕ) (bytes piece : List ℕ)
    → Counts form greatest at records count ((bytes ++ take i piece) ++ take n (take (length piece - i) (drop i piece)))
    → Counts form greatest at records count (bytes ++ take (i + n) piece)
counts_take form greatest at records count i n bytes piece h =
    let rest : take (length piece - i) (drop i piece) ≡ drop i piece = grind (arith, common_steps) in
    subst (λ xs. Counts form greatest at records count xs)
    (append_assoc bytes (take i piece) (take n (take (length piece - i) (drop i piece)))
    ∙ ap (λ xs. bytes ++ xs) (ap (λ xs. take i piece ++ take n xs) rest ∙ sym (take-add i n piece))) h
