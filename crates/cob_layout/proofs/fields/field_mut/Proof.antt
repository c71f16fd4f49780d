-- `field_mut` lends the bytes of a place, and the storage follows them. Assumes `Logic`.
use mathlib.Core.Path.{◌≡◌, refl, sym, ap, ◌∙◌}
use Prim.Native.Nat.{ℕ, ◌+◌, ◌-◌, ◌*◌, ◌^◌, ◌<◌, ◌≤◌}
use native.Mathlib.Omega.{arith}
use mathlib.Core.List.{List, [], ◌∷◌, ◌++◌}
use lib.ListN.{length, take, drop as drop_list, take-append-drop, length-drop}
use mir.Syntax.{named, w64}
use mir.Val.{Val, vint}
use base.Fml.{Lft, GName, Share, ftrue, flft}
use prog.Wp.{WpFn, Tables}
use contract.Running.{tables, tables_of}
use sound.WpLaws.{WpFn-mono}
use types.Kit.{‵, ◌⊛◌, later, some, ◌$◌, ◌∵◌, !, qed, move, keep, split, split3, join, fsplit, fjoin, rewrite, use2, await, pick, suffices, frame, done}
use types.Part.{whole, sub, agg}
use types.Run.{un, stop, fld, addr, bin, and_then, no_more, returns, enter}
use types.ByLocal.{alloc_all, pass_all, free_all, look_at, get, get_in, through, is, sets}
use denote.Builtin.{u8}
use denote.Exit.{yes, no}
use denote.RattleType.{owns}
use denote.Ref.{MutBor}
use denote.Signature.{plain, mut_slice_of}
use denote.Slice.{MutSlice, Room, slice_val, mut_slice_vals, mut_slice_Tells}
use denote.Steps.{nothing}
use denote.Struct.Laws as struct_laws
use denote.Triple.Clauses.{Clauses}
use denote.Triple.Spec.{triple_of}
use denote.Triple.Table.{entered}
use denote.Triple.Walked.{needs, says, Stays, stay_dropped, walk_of, ends_at, walked, Goes-dropped, Goes-spent_slice, walk_Meets}
use borrow.Table.Elements.{at, at_mul, length-take-le}
use Rattle.cob_layout.specs.declared.fields.Place.{Place}
use Rattle.cob_layout.specs.contracts.fields.Place as place_type
use Rattle.cob_layout.specs.contracts.fields.field_mut as field_mut
use Rattle.cob_layout.proofs.fields.Place.TheLaws as place_laws
use Rattle.cob_layout.proofs.fields.field_mut.Statement as stated
use Rattle.cob_layout.proofs.fields.field_mut.Code as code
use Rattle.cob_layout.proofs.Loans.{middle_lent, lends_middle}

-- ---- both parameters are used up by the call
abbrev stayed : Stays field_mut.ended.signature.params field_mut.ended.kept
stayed = (stay_dropped (mut_slice_of (0 ∷ []) tt (plain (λ _. u8))) no, (stay_dropped (plain (λ _. place_type.the_row)) yes, tt))

-- ---- the walk
pub field_mut_spec : {M : Type 1} → stated.statement M
unfolding tables_of
field_mut_spec 𝓤 𝓛 𝓜 𝓡 wired =
    let 𝓣 : Tables 𝓤 𝓛.H = tables_of 𝓤 𝓛.H 𝓜 (tables 𝓤 𝓛.H 𝓜 𝓡 𝓡.env) in
    let clauses : Clauses 𝓤 field_mut.ended = field_mut.clauses 𝓛 𝓜.mem 𝓡.returns in
    entered 𝓤 𝓛.H (triple_of 𝓛 field_mut.ended.signature (field_mut.spec 𝓛 𝓜.mem 𝓡.returns)) 𝓣.C 𝓣.Λ field_mut.Key.name code.function (code.unfolded 𝓤 𝓛.H 𝓜 𝓡 wired)
    (walk_Meets 𝓛 field_mut.ended stayed (Goes-spent_slice 𝓛 1 (0 ∷ []) tt (plain (λ _. u8)), (Goes-dropped 𝓛 1 (plain (λ _. place_type.the_row)) yes (λ κs x f. refl), tt)) clauses (WpFn 𝓤 𝓛.H 𝓣.C 𝓣.Λ code.function) (WpFn-mono 𝓤 𝓛.H 𝓛.laws 𝓣 code.function)
    (walked 𝓛 field_mut.ended stayed clauses (WpFn 𝓤 𝓛.H 𝓣.C 𝓣.Λ code.function) (λ κs. (mut_slice_vals, (struct_laws.vals place_type.the_type place_laws.the_laws, tt))) (λ κs. (mut_slice_Tells (named 0) κs.0 u8, (struct_laws.tells place_type.the_type place_laws.the_laws, tt)))
    (λ κs shares bounds args ghosts types. needs 𝓤 (args.1.0.offset + args.1.0.length ≤ length args.0.now) _ (λ within.
    let κ : Lft = κs.0 in
    let share : Share = shares.0 in
    let bytes : MutBor (List ℕ) = args.0 in
    let place : Place = args.1.0 in
    let offset : ℕ = place.offset in
    let count : ℕ = place.length in
    let place_vals : List Val = struct_laws.vals place_type.the_type place_laws.the_laws place in
    let block : ℕ = bytes.ref_ptr.0 in
    let first : ℕ = bytes.ref_ptr.1 in
    let γ : GName = bytes.ghost_name in
    let elements : List ℕ = bytes.now in
    -- the bounds of the two parameters
    let room : Room u8 (length elements) = types.0.0.1 in
    let elements_fit : length elements < 2 ^ 64 = room.0 in
    let elements_in_memory : length elements * 1 < 2 ^ 63 = room.1 in
    let fields = struct_laws.owed place_type.the_type place_laws.the_laws place place_vals types.1.0 in
    let offset_small : offset < 2 ^ 32 = fields.0.1 in
    let count_small : count < 2 ^ 32 = fields.1.0.1 in
    let offset_fits : offset < 2 ^ 64 = omega arith in
    let count_fits : count < 2 ^ 64 = omega arith in
    let end_fits : offset + count < 2 ^ 64 = omega arith in
    -- the bytes of the place, and those on each side of them
    let front : List ℕ = take offset elements in
    let field : List ℕ = take count (drop_list offset elements) in
    let back : List ℕ = drop_list count (drop_list offset elements) in
    let front_count : length front ≡ offset = length-take-le offset elements (omega arith) in
    let rest_count : length (drop_list offset elements) ≡ length elements - offset = length-drop offset elements in
    let field_count : length field ≡ count = length-take-le count (drop_list offset elements) (omega arith) in
    let begins : at first 1 (length front) ≡ offset + first = at_mul first 1 (length front) ∙ omega arith in
    let cut : elements ≡ front ++ (field ++ back) = sym (take-append-drop offset elements) ∙ ap (λ (l : List ℕ). front ++ l) (sym (take-append-drop count (drop_list offset elements))) in
    let field_room : Room u8 (length field) = (omega arith, omega arith) in
    let lends = lends_middle 𝓛 (named 0) κ share block first γ u8 elements front field back cut (offset + first) begins field_room (mut_slice_vals bytes) in
    let bound : (walk_of 𝓛 field_mut.ended stayed clauses).Ghost = ((κs, shares, bounds, args, (mut_slice_vals bytes, (place_vals, tt))), tt) in
    qed 𝓛 ((‵ (flft κ share) ⊛ ‵ ftrue) ∷ ‵ (owns (MutSlice (named 0) κ u8 ∷ place_type.the_row ∷ []) (bytes, (place, tt)) (mut_slice_vals bytes, (place_vals, tt))) ∷ []) ∵
    enter ! 𝓣.C 𝓣.Λ code.function (slice_val (block, first) (length elements) ∷ place_vals) _ $
    alloc_all ! (λ l. pass_all ! refl ((tt, (tt, (record { fits = elements_fit }, tt))), ((tt, (record { fits = offset_small }, (record { fits = count_small }, tt))), tt)) $
    -- the two casts, the end of the place, the address of its first byte, the count, and the slice of both
    sets ! (un ! (get_in ! (fld ! refl (stop !)) (sub ! 0 refl (whole !))) (record { fits = offset_fits })) refl (tt, record { fits = offset_fits }) $
    sets ! (un ! (get_in ! (fld ! refl (stop !)) (sub ! 1 refl (whole !))) (record { fits = count_fits })) refl (tt, record { fits = count_fits }) $
    sets ! (bin ! (get ! refl) (get ! refl) (record { fits = end_fits })) refl (tt, record { fits = end_fits }) $
    sets ! (bin ! (get_in ! (fld ! refl (stop !)) (sub ! 0 refl (whole !))) (get ! refl) tt) refl (tt, tt) $
    sets ! (is ! (bin ! (get ! refl) (get ! refl) (omega arith)) (ap (vint w64) (omega arith))) refl (tt, record { fits = count_fits }) $
    sets ! (addr ! (through ! refl (stop !))) refl (tt, tt) $
    sets ! (agg ! (and_then ! (get ! refl) (and_then ! (get ! refl) (no_more !)))) refl (tt, (tt, (record { fits = count_fits }, tt))) $
    split ! $ move ! (2 ∷ []) $ fsplit ! $ move ! (0 ∷ 2 ∷ []) $
    use2 𝓛 (later (some (middle_lent 𝓛 (named 0) κ share block first γ u8 elements front field back cut (offset + first) begins field_room))) lends $ await ! tt $ pick ! (λ δ.
    split3 ! $ returns ! (look_at ! 0 refl) $ free_all ! refl $ keep ! (0 ∷ 1 ∷ 2 ∷ []) $
    rewrite ! 0 (λ (k : ℕ). ‵ ((MutSlice (named 0) κ u8).own_val (record { ref_ptr = (block, offset + first); ghost_name = δ; now = field }) (slice_val (block, offset + first) k ∷ []))) field_count refl $
    suffices ! _ (ends_at 𝓛 field_mut.ended stayed clauses bound (slice_val (block, offset + first) count) (record { ref_ptr = (block, offset + first); ghost_name = δ; now = field }) (tt, (tt, tt)) (tt, (tt, tt))) $
    nothing ! $ nothing ! $ fjoin ! $ nothing ! $ fjoin ! $ join ! $ nothing ! $ move ! (2 ∷ 0 ∷ []) $ join ! $ join ! $ frame ! $ says ! refl $ done !))))))
