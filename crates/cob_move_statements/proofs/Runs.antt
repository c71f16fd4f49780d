-- Pieces one behind another, read as far as they go.
use Rattle.std.proofs.Common.{◌≡◌, List, [], ◌∷◌, ◌++◌, refl, sym, ap, subst, ◌∙◌, append_assoc, append-nil}
use Rattle.cob_source.specs.Tokens.{Lexeme}
use Rattle.cob_move_statements.specs.Statements.{Several}

-- What may follow one piece, and what may follow the last one: the last may be followed by nothing else than one of them, a piece may follow a
-- piece, and where the pieces end none begins.
pub record IsRun {V : Type 0} (Is : V → List Lexeme → Type 0) (Fits Ends : List Lexeme → Type 0) : Type 0 where
  pub ends_fit : (more : List Lexeme) → Ends more → Fits more
  pub piece_fits : (v : V) (ws more : List Lexeme) → Is v ws → Fits (ws ++ more)
  pub no_piece : (v : V) (ws more : List Lexeme) → Is v ws → Ends (ws ++ more) → ⊥

-- so far these pieces were read
pub record SoFar {V : Type 0} (Is : V → List Lexeme → Type 0) (Ends : List Lexeme → Type 0) (words rest : List Lexeme) (done : List V) : Type 0 where
  pub found : (vs : List V) (ws more : List Lexeme) → Several Is vs ws → rest ≡ ws ++ more → (all : List Lexeme) × Several Is (done ++ vs) all × (words ≡ all ++ more)
  pub only : (vs : List V) (ws more : List Lexeme) → Several Is vs ws → Ends more → words ≡ ws ++ more
      → (left : List V) × (own : List Lexeme) × Several Is left own × (rest ≡ own ++ more) × (vs ≡ done ++ left)

pub begins : {V : Type 0} (Is : V → List Lexeme → Type 0) (Ends : List Lexeme → Type 0) (words : List Lexeme) → SoFar Is Ends words words []
begins Is Ends words = record { found = λ vs ws more s e. (ws, s, e); only = λ vs ws more s en e. (vs, ws, s, e, refl) }

pub fits : {V : Type 0} (Is : V → List Lexeme → Type 0) (Fits Ends : List Lexeme → Type 0) → IsRun Is Fits Ends → (vs : List V) (ws more : List Lexeme) → Several Is vs ws → Ends more → Fits (ws ++ more)
fits Is Fits Ends run [] ws more s en = subst (λ (t : List Lexeme). Fits (t ++ more)) (sym s) (run.ends_fit more en)
fits Is Fits Ends run (v ∷ vs) ws more (own, rest, is, cut, s) en =
    subst Fits (sym (append_assoc own rest more) ∙ ap (λ (t : List Lexeme). t ++ more) (sym cut)) (run.piece_fits v own (rest ++ more) is)

-- what is left behind one more piece
left_behind : {V : Type 0} (Is : V → List Lexeme → Type 0) (Fits Ends : List Lexeme → Type 0) → IsRun Is Fits Ends → (rest own after : List Lexeme) (v : V) → Is v own → rest ≡ own ++ after
    → ((u : V) (ws more : List Lexeme) → Is u ws → Fits more → rest ≡ ws ++ more → (v ≡ u) × (after ≡ more))
    → (left : List V) (lw more : List Lexeme) → Several Is left lw → Ends more → rest ≡ lw ++ more
    → (us : List V) × (r : List Lexeme) × Several Is us r × (after ≡ r ++ more) × (left ≡ v ∷ us)
left_behind Is Fits Ends run rest own after v is here only [] lw more s en e =
    let nothing : more ≡ own ++ after = ap (λ (t : List Lexeme). t ++ more) (sym s) ∙ sym e ∙ here in
    absurd (run.no_piece v own after is (subst Ends nothing en))
left_behind Is Fits Ends run rest own after v is here only (u ∷ us) lw more (o, r, iu, cut, s) en e =
    let split : rest ≡ o ++ (r ++ more) = e ∙ ap (λ (t : List Lexeme). t ++ more) cut ∙ append_assoc o r more in
    let same = only u o (r ++ more) iu (fits Is Fits Ends run us r more s en) split in
    (us, r, s, same.1, ap (λ x. x ∷ us) (sym same.0))

pub goes_on : {V : Type 0} (Is : V → List Lexeme → Type 0) (Fits Ends : List Lexeme → Type 0) → IsRun Is Fits Ends → (words rest own after : List Lexeme) (done : List V) (v : V)
    → SoFar Is Ends words rest done → Is v own → rest ≡ own ++ after
    → ((u : V) (ws more : List Lexeme) → Is u ws → Fits more → rest ≡ ws ++ more → (v ≡ u) × (after ≡ more)) → SoFar Is Ends words after (done ++ v ∷ [])
goes_on {V} Is Fits Ends run words rest own after done v so is here only = record {
  found = λ vs ws more s e.
      let split : rest ≡ (own ++ ws) ++ more = here ∙ ap (λ (t : List Lexeme). own ++ t) e ∙ sym (append_assoc own ws more) in
      let (all, several, cut) = so.found (v ∷ vs) (own ++ ws) more (own, ws, is, refl, s) split in
      (all, subst (λ (xs : List V). Several Is xs all) (sym (append_assoc done (v ∷ []) vs)) several, cut);
  only = λ vs ws more s en e.
      let (left, lw, sl, er, ev) = so.only vs ws more s en e in
      let (us, r, su, ea, el) = left_behind Is Fits Ends run rest own after v is here only left lw more sl en er in
      (us, r, su, ea, ev ∙ ap (λ (xs : List V). done ++ xs) el ∙ sym (append_assoc done (v ∷ []) us));
}

pub ends_found : {V : Type 0} (Is : V → List Lexeme → Type 0) (Ends : List Lexeme → Type 0) (words rest : List Lexeme) (done : List V) → SoFar Is Ends words rest done
    → (all : List Lexeme) × Several Is done all × (words ≡ all ++ rest)
ends_found {V} Is Ends words rest done so =
    let (all, several, cut) = so.found [] [] rest refl refl in
    (all, subst (λ (xs : List V). Several Is xs all) (append-nil done) several, cut)

none_left : {V : Type 0} (Is : V → List Lexeme → Type 0) (Fits Ends : List Lexeme → Type 0) → IsRun Is Fits Ends → (rest : List Lexeme)
    → ((u : V) (ws more : List Lexeme) → Is u ws → Fits more → rest ≡ ws ++ more → ⊥)
    → (left : List V) (lw more : List Lexeme) → Several Is left lw → Ends more → rest ≡ lw ++ more → (left ≡ []) × (rest ≡ more)
none_left Is Fits Ends run rest none [] lw more s en e = (refl, e ∙ ap (λ (t : List Lexeme). t ++ more) s)
none_left Is Fits Ends run rest none (u ∷ us) lw more (o, r, iu, cut, s) en e =
    absurd (none u o (r ++ more) iu (fits Is Fits Ends run us r more s en) (e ∙ ap (λ (t : List Lexeme). t ++ more) cut ∙ append_assoc o r more))

pub ends_only : {V : Type 0} (Is : V → List Lexeme → Type 0) (Fits Ends : List Lexeme → Type 0) → IsRun Is Fits Ends → (words rest : List Lexeme) (done : List V) → SoFar Is Ends words rest done
    → ((u : V) (ws more : List Lexeme) → Is u ws → Fits more → rest ≡ ws ++ more → ⊥)
    → (vs : List V) (ws more : List Lexeme) → Several Is vs ws → Ends more → words ≡ ws ++ more → (done ≡ vs) × (rest ≡ more)
ends_only {V} Is Fits Ends run words rest done so none vs ws more s en e =
    let (left, lw, sl, er, ev) = so.only vs ws more s en e in
    let (nothing, same) = none_left Is Fits Ends run rest none left lw more sl en er in
    (sym (ev ∙ ap (λ (xs : List V). done ++ xs) nothing ∙ append-nil done), same)
