-- Parts of a record, and the words behind them.
use Rattle.std.proofs.Common.{◌≡◌, Bool, true, false, ◌&&◌, if◌then◌else◌, List, [], ◌∷◌, ◌++◌, refl, sym, ap, subst, ◌∙◌, append-nil}
use Rattle.cob_source.specs.Tokens.{Lexeme}
use Rattle.cob_copybook_record.specs.declared.level.RecordPart.TheVariants.{Entries}
use Rattle.cob_copybook_record.specs.declared.record.NoRecord.TheVariants as no_record
use Rattle.cob_copybook_record.specs.Laws.{FoundIsNotRefused, SoleWordsStay}
use Rattle.cob_copybook_record.specs.declared.level.RecordPart.{RecordPart}
use Rattle.cob_copybook_record.specs.OneRecord.{AreRenamings, ends_part, is_period_kind, words_behind_part, words_of_part}

-- a part and the words behind it are all
both_step : (b : Bool) (w : Lexeme) (ws own behind : List Lexeme) → own ++ behind ≡ ws → (if b then [] else w ∷ own) ++ (if b then w ∷ ws else behind) ≡ w ∷ ws
both_step true w ws own behind e = refl
both_step false w ws own behind e = ap (λ (t : List Lexeme). w ∷ t) e

pub both : (part : RecordPart) (starts : Bool) (ws : List Lexeme) → words_of_part part starts ws ++ words_behind_part part starts ws ≡ ws
both part starts [] = refl
both part starts (w ∷ ws) = both_step (starts && ends_part part w) w ws (words_of_part part (is_period_kind w.kind) ws) (words_behind_part part (is_period_kind w.kind) ws) (both part (is_period_kind w.kind) ws)

pub sole_words_stay : SoleWordsStay
sole_words_stay ws none = record {
  own_are = sym (both Entries false ws) ∙ ap (λ (t : List Lexeme). words_of_part Entries false ws ++ t) none ∙ append-nil (words_of_part Entries false ws);
  renamings = subst (λ (t : List Lexeme). AreRenamings true t) (sym none) refl;
}

pub found_is_not_refused : FoundIsNotRefused
found_is_not_refused name ws own no_record.Unknown x why = x.named why
found_is_not_refused name ws own no_record.Ambiguous x why = why x.alone
found_is_not_refused name ws own no_record.Renaming x why = why x.entries.renamings
