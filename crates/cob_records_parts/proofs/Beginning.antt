-- A stream before its first record, and up to the first that is chosen.
use Rattle.std.proofs.Common.{◌≡◌, ◌⊎◌, ℕ, zero, suc, ◌≤◌, List, [], drop, refl, sym, ap, inl, inr, None, Some, Option}
use Rattle.cob_records.specs.Device.{Told}
use Rattle.cob_records.specs.declared.records.Form.{Form}
use Rattle.cob_records_parts.specs.Choices.{HasCome, all_alone}
use Rattle.cob_records_parts.specs.Walks.{HasWalkedTo}
use Rattle.cob_records_parts.specs.declared.walk.Walk.{Walk}

drop_none : {X : Type 0} (n : ℕ) → drop {A = X} n [] ≡ []
drop_none zero = refl
drop_none (suc n) = refl

pub begun : (form : Form) (greatest skip : ℕ) (bytes : List ℕ) → HasCome form greatest skip 0 0 [] bytes bytes
begun form greatest skip bytes = record { bodies = []; each = tt; come = (refl, refl); many = refl; those = sym (ap (all_alone form) (drop_none skip)) }

pub told_begun : (form : Form) (greatest skip : ℕ) (r : Option (List ℕ)) → Told r r (HasCome form greatest skip 0 0 [])
told_begun form greatest skip None = tt
told_begun form greatest skip (Some bytes) = begun form greatest skip bytes

told_end : (r0 r1 : Option (List ℕ)) (P : List ℕ → List ℕ → Type 0) → Told r0 r1 (λ bytes rest. P bytes rest × (rest ≡ [])) → Told r0 r1 (λ bytes rest. rest ≡ [])
told_end None r1 P told = tt
told_end (Some bytes) None P told = absurd told
told_end (Some bytes) (Some rest) P told = told.1

pub passed_to : (form : Form) (greatest skip : ℕ) (now : Walk) (r0 r1 : Option (List ℕ))
    → (now.skip ≤ now.number) ⊎ ((first : Option (List ℕ)) (chosen : List ℕ) → Told first r0 (HasCome form greatest skip 0 0 chosen)
    → Told first r1 (λ bytes rest. HasWalkedTo now chosen bytes rest × (rest ≡ [])))
    → (now.skip ≤ now.number) ⊎ Told r0 r1 (λ bytes rest. rest ≡ [])
passed_to form greatest skip now r0 r1 (inl behind) = inl behind
passed_to form greatest skip now r0 r1 (inr ends) = inr (told_end r0 r1 (HasWalkedTo now []) (ends r0 [] (told_begun form greatest skip r0)))
