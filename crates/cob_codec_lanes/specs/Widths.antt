-- Words of binary items that are not below zero.
use Rattle.std.specs.Prelude.{ℕ, Bool, true, false}
use Rattle.cob_codec_lanes.specs.declared.width.Width.{Width}
use Rattle.cob_codec_lanes.specs.declared.width.Width.TheVariants.{Two, Four, Eight}

-- The greatest word of an item that is not below zero. One of an item without sign never is.
abbrev pub greatest_plain : (signed : Bool) → Width → ℕ
greatest_plain false w = 0xFFFFFFFFFFFFFFFF
greatest_plain true Two = 0x7FFF
greatest_plain true Four = 0x7FFFFFFF
greatest_plain true Eight = 0x7FFFFFFFFFFFFFFF
