-- What records that come and records that are written come to, in each form.
use Rattle.std.proofs.Common.{◌≡◌, ℕ, true, List, [], ◌∷◌, ◌++◌, map, refl, sym, ap, ◌∙◌, arith, append_assoc, append-nil}
use Rattle.std.specs.List.{AllByRecursion, flat_map}
use Rattle.cob_records.specs.declared.records.Form.{Form}
use Rattle.cob_records.specs.declared.records.Form.TheVariants.{Fixed, Variable, Blocked}
use Rattle.cob_records.specs.declared.outlet.Outlet.{Outlet}
use Rattle.cob_records.specs.declared.outlet.Outlet.TheVariants.{UnblockedFixed, UnblockedVariable, Blocks}
use Rattle.cob_records.specs.Frame.{framed, is_unblocked}
use Rattle.cob_records.specs.Blocks.{AreBlocksOf, MayStandInBlock, OpenBlock, blocks_from, closed_by, empty, with_frame}
use Rattle.cob_records.specs.Forms.{Come, FormsAreFrames, MayBeBlocked, NextIsOne, pending_in, written_by_all, outlet_with_all, written_of}
use Rattle.cob_records.proofs.Greedy.{blocks_are_greedy}
use Rattle.cob_records.proofs.Unique.{reading_is_one}
use Rattle.cob_records.proofs.BlockUnique.{block_reading_is_one}

come : (form : Form) (left : ℕ) (bodies : List (List ℕ)) (bytes : List ℕ) (after : ℕ) (rest : List ℕ) → is_unblocked form ≡ true
    → Come form left bodies bytes after rest → (bytes ≡ flat_map (framed form) bodies ++ rest) × (after ≡ left)
come form left [] bytes after rest single (same, is) = (same, is)
come Fixed left (body ∷ bodies) bytes after rest single (mid, more, (same, is), tail) =
    let (all, end) = come Fixed mid bodies more after rest refl tail in
    (same ∙ ap (λ (xs : List ℕ). framed Fixed body ++ xs) all ∙ sym (append_assoc (framed Fixed body) (flat_map (framed Fixed) bodies) rest), end ∙ is)
come Variable left (body ∷ bodies) bytes after rest single (mid, more, (same, is), tail) =
    let (all, end) = come Variable mid bodies more after rest refl tail in
    (same ∙ ap (λ (xs : List ℕ). framed Variable body ++ xs) all ∙ sym (append_assoc (framed Variable body) (flat_map (framed Variable) bodies) rest), end ∙ is)
come (Blocked most) left (body ∷ bodies) bytes after rest single h = absurd (cc)

written_fixed : (bodies : List (List ℕ)) → (written_by_all UnblockedFixed bodies ≡ flat_map (framed Fixed) bodies) × (outlet_with_all UnblockedFixed bodies ≡ UnblockedFixed)
written_fixed [] = (refl, refl)
written_fixed (body ∷ bodies) = let (a, b) = written_fixed bodies in (ap (λ (xs : List ℕ). framed Fixed body ++ xs) a, b)

written_variable : (bodies : List (List ℕ)) → (written_by_all UnblockedVariable bodies ≡ flat_map (framed Variable) bodies) × (outlet_with_all UnblockedVariable bodies ≡ UnblockedVariable)
written_variable [] = (refl, refl)
written_variable (body ∷ bodies) = let (a, b) = written_variable bodies in (ap (λ (xs : List ℕ). framed Variable body ++ xs) a, b)

written : (form : Form) (bodies : List (List ℕ)) → is_unblocked form ≡ true → written_of form bodies ≡ flat_map (framed form) bodies
written Fixed bodies single = let (a, b) = written_fixed bodies in ap (λ (o : Outlet). written_by_all UnblockedFixed bodies ++ pending_in o) b ∙ append-nil (written_by_all UnblockedFixed bodies) ∙ a
written Variable bodies single = let (a, b) = written_variable bodies in ap (λ (o : Outlet). written_by_all UnblockedVariable bodies ++ pending_in o) b ∙ append-nil (written_by_all UnblockedVariable bodies) ∙ a
written (Blocked most) bodies single = absurd (cc)

pub written_blocks : (b : OpenBlock) (bodies : List (List ℕ)) → written_by_all (Blocks b) bodies ++ pending_in (outlet_with_all (Blocks b) bodies) ≡ blocks_from b (map (framed Variable) bodies)
written_blocks b [] = refl
written_blocks b (body ∷ bodies) =
    let next = with_frame b (framed Variable body) in
    append_assoc (closed_by b (framed Variable body)) (written_by_all (Blocks next) bodies) (pending_in (outlet_with_all (Blocks next) bodies))
    ∙ ap (λ (xs : List ℕ). closed_by b (framed Variable body) ++ xs) (written_blocks next bodies)

may_stand : (size : ℕ) (bodies : List (List ℕ)) → AllByRecursion (MayBeBlocked size) bodies
    → AllByRecursion (MayStandInBlock size) (map (framed Variable) bodies)
may_stand size [] h = h
may_stand size (body ∷ bodies) ((low, high), more) =
    ((omega (arith, low), omega (arith, high)), may_stand size bodies more)

blocks : (size : ℕ) (bodies : List (List ℕ)) → AllByRecursion (MayBeBlocked size) bodies
    → AreBlocksOf size (map (framed Variable) bodies) (written_of (Blocked size) bodies)
blocks size bodies h =
    rw (written_blocks (empty size) bodies) (blocks_are_greedy.greedy size (map (framed Variable) bodies) (may_stand size bodies h))

pub forms_are_frames : FormsAreFrames
forms_are_frames = record { come = come; written = written; blocks = blocks }

pub next_is_one : NextIsOne
next_is_one Fixed greatest left bytes slice other rest over answer second after later sizes low high (a, m) (b, n) u v =
    let (answers, records, rests) = reading_is_one Fixed greatest bytes slice other rest over answer second low high a b u v in (answers, records, m ∙ sym n, rests)
next_is_one Variable greatest left bytes slice other rest over answer second after later sizes low high (a, m) (b, n) u v =
    let (answers, records, rests) = reading_is_one Variable greatest bytes slice other rest over answer second low high a b u v in (answers, records, m ∙ sym n, rests)
next_is_one (Blocked most) greatest left bytes slice other rest over answer second after later (least, small) low high a b u v =
    block_reading_is_one most greatest left bytes slice other rest over answer second after later small high a b u v
