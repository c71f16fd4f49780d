-- Records that come one after another, and an outlet to which records go one after another.
use Rattle.std.proofs.Common.{◌≡◌, ℕ, ◌+◌, ◌≤◌, List, [], ◌∷◌, ◌++◌, length, take, Bool, true, false, refl, sym, subst, ◌∙◌, ap, append_assoc, append-nil, arith, None, Some, Ok}
use Rattle.cob_records.specs.Frame.{framed, is_unblocked}
use Rattle.cob_records.specs.Blocks.{OpenBlock, empty, fits, with_frame}
use Rattle.cob_records.specs.Forms.{Come, ComesFirst, FitsForm, FitsIn, ReadsInForm, emptied, records_held, outlet_of, pending_in, outlet_with, outlet_with_all, written_by, written_by_all}
use Rattle.cob_records.specs.declared.records.Form.{Form}
use Rattle.cob_records.specs.declared.records.Form.TheVariants.{Fixed, Variable, Blocked}
use Rattle.cob_records.specs.declared.outlet.Outlet.{Outlet}
use Rattle.cob_records.specs.declared.outlet.Outlet.TheVariants.{UnblockedFixed, UnblockedVariable, Blocks}
use Rattle.cob_convert_stream.specs.Input.{records_in}
use Rattle.cob_convert.specs.Run.{records_out}

-- ---- one more pair

pub records_out_more : (pairs : List (List ℕ × List ℕ)) (pair : List ℕ × List ℕ) → records_out (pairs ++ pair ∷ []) ≡ records_out pairs ++ pair.1 ∷ []
records_out_more [] pair = refl
records_out_more (p ∷ pairs) pair = ap (λ (xs : List (List ℕ)). p.1 ∷ xs) (records_out_more pairs pair)

pub records_in_more : (pairs : List (List ℕ × List ℕ)) (pair : List ℕ × List ℕ) → records_in (pairs ++ pair ∷ []) ≡ records_in pairs ++ pair.0 ∷ []
records_in_more [] pair = refl
records_in_more (p ∷ pairs) pair = ap (λ (xs : List (List ℕ)). p.0 ∷ xs) (records_in_more pairs pair)

-- ---- one more record in an outlet

pub with_one_more : (o : Outlet) (xs : List (List ℕ)) (x : List ℕ) → outlet_with_all o (xs ++ x ∷ []) ≡ outlet_with (outlet_with_all o xs) x
with_one_more o [] x = refl
with_one_more o (y ∷ xs) x = with_one_more (outlet_with o y) xs x

pub written_more : (o : Outlet) (xs : List (List ℕ)) (x : List ℕ) → written_by_all o (xs ++ x ∷ []) ≡ written_by_all o xs ++ written_by (outlet_with_all o xs) x
written_more o [] x = append-nil (written_by o x)
written_more o (y ∷ xs) x =
    ap (λ (zs : List ℕ). written_by o y ++ zs) (written_more (outlet_with o y) xs x)
    ∙ sym (append_assoc (written_by o y) (written_by_all (outlet_with o y) xs) (written_by (outlet_with_all (outlet_with o y) xs) x))

-- ---- one more record that came

pub come_one : (form : Form) (left : ℕ) (bodies : List (List ℕ)) (body bytes : List ℕ) (mid : ℕ) (more : List ℕ) (after : ℕ) (rest : List ℕ)
    → Come form left bodies bytes mid more → ComesFirst form mid body more after rest → Come form left (bodies ++ body ∷ []) bytes after rest
come_one form left [] body bytes mid more after rest (same, is) first =
    (after, rest, subst (λ (xs : List ℕ). ComesFirst form left body xs after rest) (sym same) (subst (λ (k : ℕ). ComesFirst form k body more after rest) is first), (refl, refl))
come_one form left (b ∷ bodies) body bytes mid more after rest (k, behind, one, come) first =
    (k, behind, one, come_one form k bodies body behind mid more after rest come first)

-- a record that was read came first
pub comes_of : (form : Form) (greatest left : ℕ) (slot : List ℕ) (count after : ℕ) (bytes rest : List ℕ) → ReadsInForm form greatest left slot (Ok (Some count)) after bytes rest
    → ComesFirst form left (take count slot) bytes after rest
comes_of Fixed greatest left slot count after bytes rest ((size, whole, frame), same) = (frame, same)
comes_of Variable greatest left slot count after bytes rest ((size, whole, frame), same) = (frame, same)
comes_of (Blocked most) greatest left slot count after bytes rest (size, whole, comes) = comes

-- without blocks none is open
pub at_end : (form : Form) (bodies : List (List ℕ)) (bytes : List ℕ) (opened : ℕ) (left slot rest : List ℕ) (after greatest start : ℕ) → start ≡ 0
    → Come form start bodies bytes opened left → ReadsInForm form greatest opened slot (Ok None) after left rest → (opened ≡ 0) × (left ≡ []) × (rest ≡ [])
at_end Fixed [] bytes opened left slot rest after greatest start zero (same, is) reads = (is ∙ zero, reads.0.0, reads.0.1)
at_end Fixed (b ∷ bodies) bytes opened left slot rest after greatest start zero (mid, more, (frame, is), come) reads =
    at_end Fixed bodies more opened left slot rest after greatest mid (is ∙ zero) come reads
at_end Variable [] bytes opened left slot rest after greatest start zero (same, is) reads = (is ∙ zero, reads.0.0, reads.0.1)
at_end Variable (b ∷ bodies) bytes opened left slot rest after greatest start zero (mid, more, (frame, is), come) reads =
    at_end Variable bodies more opened left slot rest after greatest mid (is ∙ zero) come reads
at_end (Blocked most) bodies bytes opened left slot rest after greatest start zero come (none, done, is, end) = (none, is, end)

-- ---- how many are held back

pub holds_none : (form : Form) → records_held (outlet_of form) ≡ 0
holds_none Fixed = refl
holds_none Variable = refl
holds_none (Blocked size) = refl

kept_or_new : (b : OpenBlock) (frame : List ℕ) (yes : Bool) → fits b frame ≡ yes → (with_frame b frame).held ≤ b.held + 1
kept_or_new b frame true e = rw e (omega arith)
kept_or_new b frame false e = rw e (omega arith)

pub held_more : (o : Outlet) (body : List ℕ) → records_held (outlet_with o body) ≤ records_held o + 1
held_more UnblockedFixed body = omega arith
held_more UnblockedVariable body = omega arith
held_more (Blocks b) body = kept_or_new b (framed Variable body) (fits b (framed Variable body)) refl

-- ---- without blocks nothing is held back

unblocked_fixed : (xs : List (List ℕ)) → outlet_with_all UnblockedFixed xs ≡ UnblockedFixed
unblocked_fixed [] = refl
unblocked_fixed (x ∷ xs) = unblocked_fixed xs

unblocked_variable : (xs : List (List ℕ)) → outlet_with_all UnblockedVariable xs ≡ UnblockedVariable
unblocked_variable [] = refl
unblocked_variable (x ∷ xs) = unblocked_variable xs

pub none_pending : (form : Form) (xs : List (List ℕ)) → is_unblocked form ≡ true → pending_in (outlet_with_all (outlet_of form) xs) ≡ []
none_pending Fixed xs unblocked = ap pending_in (unblocked_fixed xs)
none_pending Variable xs unblocked = ap pending_in (unblocked_variable xs)
none_pending (Blocked size) xs unblocked = absurd (cc)

-- ---- the size of its blocks stays

same_size : (b : OpenBlock) (frame : List ℕ) (yes : Bool) → fits b frame ≡ yes → (with_frame b frame).size ≡ b.size
same_size b frame true e = rw e refl
same_size b frame false e = rw e refl

size_kept : (b : OpenBlock) (frame : List ℕ) → (with_frame b frame).size ≡ b.size
size_kept b frame = same_size b frame (fits b frame) refl

fits_blocks : (b : OpenBlock) (xs : List (List ℕ)) (body : List ℕ) → 8 + length body ≤ b.size → FitsIn (outlet_with_all (Blocks b) xs) body
fits_blocks b [] body h = h
fits_blocks b (x ∷ xs) body h = fits_blocks (with_frame b (framed Variable x)) xs body (rw (size_kept b (framed Variable x)) h)

-- what fits into its form fits into the outlet
pub fits_behind : (form : Form) (xs : List (List ℕ)) (most : ℕ) (body : List ℕ) → FitsForm form most → length body ≤ most → FitsIn (outlet_with_all (outlet_of form) xs) body
fits_behind Fixed xs most body fit small = subst (λ (o : Outlet). FitsIn o body) (sym (unblocked_fixed xs)) tt
fits_behind Variable xs most body fit small = subst (λ (o : Outlet). FitsIn o body) (sym (unblocked_variable xs)) tt
fits_behind (Blocked size) xs most body fit small = fits_blocks (empty size) xs body (omega (arith, fit, small))

-- where nothing is held back any more, it is as it began
emptied_blocks : (b : OpenBlock) (xs : List (List ℕ)) → emptied (outlet_with_all (Blocks b) xs) ≡ Blocks (empty b.size)
emptied_blocks b [] = refl
emptied_blocks b (x ∷ xs) =
    emptied_blocks (with_frame b (framed Variable x)) xs ∙ ap (λ (n : ℕ). Blocks (empty n)) (size_kept b (framed Variable x))

pub emptied_behind : (form : Form) (xs : List (List ℕ)) → emptied (outlet_with_all (outlet_of form) xs) ≡ outlet_of form
emptied_behind Fixed xs = ap emptied (unblocked_fixed xs)
emptied_behind Variable xs = ap emptied (unblocked_variable xs)
emptied_behind (Blocked size) xs = emptied_blocks (empty size) xs
