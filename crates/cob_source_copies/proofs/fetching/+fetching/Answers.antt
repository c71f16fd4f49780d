use Rattle.std.proofs.Common.{ℕ, ◌+◌, ◌*◌, List, map, sym, ap, subst, ◌∙◌}
use Rattle.std.specs.List.{flat_map}
use Rattle.std.proofs.lemmas.List.{length-map, nil_from_length}
use Rattle.cob_limits.specs.Limits.{longest_text}
use Rattle.cob_source.specs.declared.token.Token.{Token}
use Rattle.cob_source.specs.Tokens.{lexemes}
use Rattle.cob_source.specs.Formats.{AreWordsIn}
use Rattle.cob_source_copies.specs.Statements.{WrittenTextName, written_text_name}
use Rattle.cob_source_copies.specs.Texts.{copied_text}
use Rattle.cob_source_copies.specs.Libraries.{IsTextAdded, IsKnown, names_in_part, on_line}
use Rattle.cob_source_copies.proofs.FetchLemmas.{LeftNames, added_known, all_fetched, grows_both, grows_none, grows_one, names_left, one_fetched}
use Rattle.cob_source_copies.proofs.fetching.+fetching.Goals as goal

pub fetch_text-returns-clause-grows : goal.fetch_text-returns-clause-grows
fetch_text-returns-clause-grows g t c =
    let items = c.fetch_wanted.new.library.texts.items in
    let middle = map copied_text items in
    let after = map copied_text c.put_text.new.library.texts.items in
    let ws = lexemes c.as_slice-read.result.now in
    let n = written_text_name c.args.named in
    grows_both (map copied_text c.args.library.now.texts.items) middle after c.in_ok-fetch_wanted.ensures.grows
    (grows_one n c.in_ok-words.ensures.0 c.in_ok-words.ensures.1 ws middle after
    (subst (λ (v : List Token). AreWordsIn c.in_ok-words.ensures.0 c.in_ok-words.ensures.1 (lexemes v)) (sym c.as_slice-read.ensures.value) c.in_ok-words.ensures.2)
    (subst (λ (k : ℕ). IsTextAdded n (map (on_line ((k + 1) * longest_text)) ws) middle after) (sym (length-map items copied_text)) c.in_ok-put_text.ensures))

pub fetch_text-returns-clause-known : goal.fetch_text-returns-clause-known
fetch_text-returns-clause-known g t c =
    added_known (written_text_name c.args.named) _ (map copied_text c.fetch_wanted.new.library.texts.items) (map copied_text c.put_text.new.library.texts.items) c.in_ok-put_text.ensures

pub fetch_wanted-loop-first-init : goal.fetch_wanted-loop-first-init
fetch_wanted-loop-first-init g t c =
    let now = map copied_text c.args.library.now.texts.items in
    let names = map written_text_name c.as_slice-rest.result.now in
    record {
      grows = grows_none now;
      left = λ parts begin. subst (λ (ns : List WrittenTextName). LeftNames now names ns) (ap (map written_text_name) c.as_slice-rest.ensures.value ∙ c.in_ok-names.ensures parts begin) (names_left now names);
    }

pub fetch_wanted-loop-first-preserved : goal.fetch_wanted-loop-first-preserved
fetch_wanted-loop-first-preserved g t c =
    let now = map copied_text c.loop-first.library.texts.items in
    let next = map copied_text c.fetch_text.new.library.texts.items in
    let grows = c.in_ok-fetch_text.ensures.grows in
    record {
      grows = grows_both (map copied_text c.args.library.now.texts.items) now next c.loop-first.invariant.grows grows;
      left = λ parts begin. one_fetched now next (map written_text_name c.loop-first.rest.now) (map written_text_name c.in-Some.more.now) (flat_map names_in_part parts) (written_text_name c.in-Some.first.now)
          (ap (map written_text_name) c.in-Some.ensures.cases.0) grows (subst (λ (n : WrittenTextName). IsKnown next n) c.in_ok-named.ensures c.in_ok-fetch_text.ensures.known) (c.loop-first.invariant.left parts begin);
    }

pub fetch_wanted-returns-clause-grows : goal.fetch_wanted-returns-clause-grows
fetch_wanted-returns-clause-grows g t c = c.loop-first.invariant.grows

pub fetch_wanted-returns-clause-known : goal.fetch_wanted-returns-clause-known
fetch_wanted-returns-clause-known g t c = λ parts begin.
    all_fetched (map copied_text c.loop-first.library.texts.items) (map written_text_name c.loop-first.rest.now) (flat_map names_in_part parts)
    (ap (map written_text_name) (nil_from_length c.loop-first.rest.now c.in_default.ensures.cases)) (c.loop-first.invariant.left parts begin)
