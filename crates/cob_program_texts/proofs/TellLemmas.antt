-- What refused texts are told as.
use Rattle.std.proofs.Common.{◌≡◌, ℕ, List, Result, Ok, Err, inr, subst, sym}
use Rattle.std.specs.Bool.{Decides}
use Rattle.std.specs.Prelude.{IfErr, IfOk, IsTrue}
use Rattle.cob_convert_record.specs.Conversion.{Conversion}
use Rattle.cob_convert.specs.Means.{Means}
use Rattle.cob_convert.specs.declared.fault.PrepareFault.{PrepareFault}
use Rattle.cob_convert.specs.declared.fault.PrepareFault.TheVariants as prepare
use Rattle.cob_program_faults.specs.declared.fault.CommandFault.{CommandFault}
use Rattle.cob_program_faults.specs.declared.fault.CommandFault.TheVariants.{Memory}
use Rattle.cob_back_runs.specs.Keeps.{AreLossless, Keeps}
use Rattle.cob_program_texts.specs.Answers.{IsAnswer, IsRefusal, IsRefusedBack, IsRefusedThere, RefusesTexts, is_yes, refusal_back, refusal_there}
use Rattle.cob_program_texts.specs.declared.answer.Answer.{Answer}
use Rattle.cob_program_texts.specs.LosslessEnds.{RefusesConversion}

told_there : (refused : PrepareFault) (a b p : List ℕ) → IsRefusal refused a b p → RefusesConversion (refusal_there refused)
told_there (prepare.InBook f) a b p is = tt
told_there (prepare.OutBook f) a b p is = tt
told_there (prepare.Moves f) a b p is = tt
told_there (prepare.Block least) a b p is = absurd is.breaks.2
told_there prepare.Memory a b p is = tt

told_back : (refused : PrepareFault) (a b p : List ℕ) → IsRefusal refused a b p → RefusesConversion (refusal_back refused)
told_back (prepare.InBook f) a b p is = tt
told_back (prepare.OutBook f) a b p is = tt
told_back (prepare.Moves f) a b p is = tt
told_back (prepare.Block least) a b p is = absurd is.breaks.2
told_back prepare.Memory a b p is = tt

-- what is told of texts that are refused is a fault that the command can have
pub may_there : (told : CommandFault) (a b p : List ℕ) → IsRefusedThere told a b p → RefusesConversion told
may_there told a b p is = subst RefusesConversion (sym is.told_so) (told_there is.refused a b p is.breaks)

pub may_back : (told : CommandFault) (a b p : List ℕ) → IsRefusedBack told a b p → RefusesConversion told
may_back told a b p is = subst RefusesConversion (sym is.told_so) (told_back is.refused b a p is.breaks)

-- where the texts say the conversion there, a fault of those of the one back is one of the texts, and a fault that the command can have
pub back_refused : (told : Result Answer CommandFault) (in_book out_book there back : List ℕ) (forth : Conversion) → Means in_book out_book there forth
    → IfErr told (λ fault. IsRefusedBack fault in_book out_book back) → IfErr told (λ fault. RefusesTexts fault in_book out_book there back)
back_refused (Ok x) in_book out_book there back forth means is = tt
back_refused (Err e) in_book out_book there back forth means is = inr (forth, means, is)

pub back_may : (told : Result Answer CommandFault) (in_book out_book back : List ℕ) → IfErr told (λ fault. IsRefusedBack fault in_book out_book back)
    → IfErr told RefusesConversion
back_may (Ok x) in_book out_book back is = tt
back_may (Err e) in_book out_book back is = may_back e in_book out_book back is

-- want of memory may be told of any texts of a conversion back
pub memory_refused : (told : Result Answer CommandFault) (in_book out_book back : List ℕ) → IfErr told (λ fault. fault ≡ Memory)
    → IfErr told (λ fault. IsRefusedBack fault in_book out_book back)
memory_refused (Ok x) in_book out_book back is = tt
memory_refused (Err e) in_book out_book back is = record { refused = prepare.Memory; breaks = record { breaks = tt }; told_so = is }

-- the answer between the conversions that the texts say is the answer to the texts
pub answered : (told : Result Answer CommandFault) (in_book out_book there back : List ℕ) (forth home : Conversion)
    → Means in_book out_book there forth → Means out_book in_book back home
    → IfOk told (λ answer. Decides (is_yes answer) (AreLossless forth home)) → IfOk told (λ answer. IsTrue (is_yes answer) → Keeps forth home)
    → IfOk told (λ answer. IsAnswer in_book out_book there back (is_yes answer))
answered (Ok x) in_book out_book there back forth home means means_back exactly keeps =
    record { forth = forth; home = home; means = means; means_back = means_back; exactly = exactly; keeps = keeps }
answered (Err e) in_book out_book there back forth home means means_back exactly keeps = tt
