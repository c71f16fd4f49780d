use Rattle.std.proofs.Common.{arith, subst, sym, map, refl, List}
use Rattle.std.proofs.lemmas.List.{length-map}
use Rattle.cob_report_show.specs.declared.named.ListedItem.{ListedItem}
use Rattle.cob_report_show.specs.Elements.{named_item}
use Rattle.cob_report_compare.specs.Equal.{printed_of}
use Rattle.cob_report_compare.specs.Keys.{AreKeyItems, BeginsKeyAt}
use Rattle.cob_report_compare.proofs.keys.key_offset.Goals as goal

pub key_place-requires-clause-key : goal.key_place-requires-clause-key
key_place-requires-clause-key c =
    let all = subst (λ (ks : List ListedItem). AreKeyItems c.args.compared.layout.now (map named_item ks)) c.in-Some.ensures.cases.0 c.requires.keys in
    (all.0, tt)

pub returns-in-Some : goal.returns-in-Some
returns-in-Some c =
    subst (λ (ks : List ListedItem). BeginsKeyAt (map named_item ks) (printed_of c.args.compared) c.key_place.result.offset) (sym c.in-Some.ensures.cases.0)
    (c.key_place.result, c.key_place.ensures.at, refl)

pub returns-in-None : goal.returns-in-None
returns-in-None c = absurd (omega (arith, c.requires.some, length-map c.args.keys.now named_item, c.in-None.ensures.cases))
