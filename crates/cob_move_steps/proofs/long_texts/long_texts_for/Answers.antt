use Rattle.cob_move_steps.proofs.LongTextLemmas.{long_texts_more, behind_more}
use Rattle.cob_move_steps.proofs.long_texts.long_texts_for.Goals as goal

pub loop-zeros-preserved : goal.loop-zeros-preserved
loop-zeros-preserved c =
    let item = c.args.item.now in
    let before = c.loop-zeros.texts.items in
    let after = c.push.new.self.items in
    let text = c.long_text_for.ensures in
    let kept = c.loop-zeros.invariant in
    let more =
    long_texts_more item c.loop-zeros.zeros before after c.long_text_for.result kept.count kept.texts text.text c.in_ok-push.ensures.items in
    record {
      count = more.0;
      texts = more.1;
      padded = behind_more item c.loop-zeros.zeros before after c.long_text_for.result kept.count kept.padded text.padded c.in_ok-push.ensures.items;
    }
