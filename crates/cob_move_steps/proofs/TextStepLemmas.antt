-- Steps of numbers of edited items, carried out: what the receiver gets.
use Rattle.std.proofs.Common.{◌≡◌, ℕ, ◌-ℤ◌, Bool, true, false, not, List, inr}
use Rattle.cob_picture.specs.Counts.{scale}
use Rattle.cob_codec.specs.declared.reading.Reading.{Reading}
use Rattle.cob_copybook_tree.specs.declared.node.Item.{Item}
use Rattle.cob_copybook_tree.specs.declared.node.Kind.TheVariants.{Item as ItemKind}
use Rattle.cob_copybook_tree.specs.Lengths.{item_size}
use Rattle.cob_codec_lanes.specs.Windows.{last_bytes}
use Rattle.cob_codec_lanes.specs.Words.{IsNumberRead}
use Rattle.cob_move_receive.specs.Sent.{Entry}
use Rattle.cob_move_receive.specs.Received.{Received, outcome}
use Rattle.cob_move_steps.specs.Deedits.{IsReceiverWriterFor, IsTextStep}
use Rattle.cob_move_steps.specs.Ends.{GivesSigned, item_digits}
use Rattle.cob_move_steps.specs.declared.number_ends.ReceiverWriter.{ReceiverWriter}
use Rattle.cob_move_steps.specs.declared.number_ends.ReceiverWriter.TheVariants as receiver
use Rattle.cob_move_steps.specs.declared.text_step.TextStep.{TextStep}
use Rattle.cob_move_steps.proofs.AnyNumberLemmas.{no_number_moved}
use Rattle.cob_move_steps.proofs.EditLemmas.{not_edited}

-- what a receiver gets where the sender's bytes are no number's text
pub no_text_moved : (s r : Item) (step : TextStep) (reading : Reading) (bytes : List ℕ) (told minus : Bool) (kept new : List ℕ) (n : ℕ) → IsTextStep s r step → not told ≡ true
    → IsNumberRead (GivesSigned reading s (last_bytes (item_size s) bytes)) (item_digits r) (scale r.picture.positions -ℤ scale s.picture.positions) told minus kept
    → Received (Entry (ItemKind s) (last_bytes (item_size s) bytes) reading) (ItemKind r) n (outcome false new)
no_text_moved s r step reading bytes told minus kept new n is none read = go step.writer is.writer
  where
    go : (w : ReceiverWriter) → IsReceiverWriterFor r w → Received (Entry (ItemKind s) (last_bytes (item_size s) bytes) reading) (ItemKind r) n (outcome false new)
    go (receiver.Number w) writes = no_number_moved s r w reading bytes told minus kept new n writes (inr (inr is.reader.edited.plainly)) none read
    go (receiver.Text w) writes = not_edited s r reading bytes told minus kept new n writes.receives (inr (inr is.reader.edited.plainly)) none read
