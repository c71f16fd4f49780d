-- Commands without global options.
use Rattle.std.proofs.Common.{◌≡◌, ◌&&◌, Bool, true, false, not, refl, sym, true≢false}
use Rattle.clap.specs.Words.{app_of}
use Rattle.clap.specs.declared.builder.command.Command.{Command}
use Rattle.clap.specs.declared.builder.command.Command.TheViews.{out-Command}

third_is_false : (a b c d : Bool) → (a && (not b && (not c && d))) ≡ true → c ≡ false
third_is_false a b false d e = refl
third_is_false false b true d e = absurd (true≢false (sym e))
third_is_false true true true d e = absurd (true≢false (sym e))
third_is_false true false true d e = absurd (true≢false (sym e))

-- a plain command has no global option
pub plain_is_local : (c : Command) → (app_of c).top.is_plain ≡ true → (out-Command c).has_globals ≡ false
plain_is_local c e = third_is_false _ _ _ _ e
