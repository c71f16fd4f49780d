-- Blocks of variable-length records: which frames stand in one block, and what a sink that gathers them writes.
use Rattle.std.specs.Prelude.{◌≡◌, ℕ, ◌+◌, ◌<◌, ◌≤◌, Bool, nat_le, if◌then◌else◌, List, [], ◌∷◌, ◌++◌, length}
use Rattle.std.specs.List.{AllByRecursion, flat_map}
use Rattle.cob_limits.specs.Limits.{longest_block}
use Rattle.cob_records.specs.Frame.{descriptor}

-- the least size that a block may have at most: that of both descriptors
abbrev pub least_block : ℕ
least_block = 8

-- blocks may have so many bytes at most
abbrev pub IsBlockSize : ℕ → Type 0
IsBlockSize most = (least_block ≤ most) × (most ≤ longest_block)

-- A block: its descriptor, and then its frames. A block descriptor word is two bytes with the length of the word and of the frames, the highest
-- first, and then two zeros.
abbrev pub block : List ℕ → List ℕ
block frames = descriptor (length frames) ++ frames

-- ---- which frames stand in one block

-- lists one behind another
abbrev pub joined : {A : Type 0} → List (List A) → List A
joined [] = []
joined (xs ∷ rest) = xs ++ joined rest

-- a block of these frames, of which there is one at least, has at most so many bytes
abbrev pub IsBlockOf : ℕ → List (List ℕ) → Type 0
IsBlockOf size frames = (0 < length frames) × (4 + length (joined frames) ≤ size)

-- the next frame wouldn't fit into the block of these
abbrev pub IsFullBefore : ℕ → List (List ℕ) → List (List ℕ) → Type 0
IsFullBefore size frames [] = Unit {0}
IsFullBefore size frames (next ∷ more) = size < 4 + length (joined frames) + length next

-- Frames in greedy blocks: each block has a frame at least and at most so many bytes, and each but the last has no room for the next frame.
abbrev pub AreGreedy : ℕ → List (List (List ℕ)) → Type 0
AreGreedy size [] = Unit {0}
AreGreedy size (frames ∷ rest) = IsBlockOf size frames × IsFullBefore size frames (joined rest) × AreGreedy size rest

-- the bytes are those of these frames in greedy blocks, each of at most so many bytes
abbrev pub AreBlocksOf : ℕ → List (List ℕ) → List ℕ → Type 0
AreBlocksOf size frames bytes =
    (blocks : List (List (List ℕ))) × AreGreedy size blocks × (joined blocks ≡ frames) × (bytes ≡ flat_map (λ fs. block (joined fs)) blocks)

-- ---- what a sink gathers

-- the open block of a sink: how many bytes it has at most, its frames, and how many they are
pub record OpenBlock : Type 0 where
  pub size : ℕ
  pub frames : List ℕ
  pub held : ℕ

-- an open block that holds nothing
abbrev pub empty : ℕ → OpenBlock
empty size = record { size = size; frames = []; held = 0 }

-- one more frame fits into it
abbrev pub fits : OpenBlock → List ℕ → Bool
fits b frame = nat_le (4 + length b.frames + length frame) b.size

-- what closing a block of these frames writes: where there are none, nothing
abbrev pub closed_block : List ℕ → List ℕ
closed_block [] = []
closed_block (byte ∷ bytes) = block (byte ∷ bytes)

-- what one more frame writes: the block, where the frame doesn't fit into it
abbrev pub closed_by : OpenBlock → List ℕ → List ℕ
closed_by b frame = if fits b frame then [] else closed_block b.frames

-- the block with one more frame, and else the next one with that frame alone
abbrev pub with_frame : OpenBlock → List ℕ → OpenBlock
with_frame b frame =
    if fits b frame then (record { size = b.size; frames = b.frames ++ frame; held = b.held + 1 })
    else (record { size = b.size; frames = frame; held = 1 })

-- what is written of frames that come one after another, from an open block on until it is closed behind the last
abbrev pub blocks_from : OpenBlock → List (List ℕ) → List ℕ
blocks_from b [] = closed_block b.frames
blocks_from b (frame ∷ frames) = closed_by b frame ++ blocks_from (with_frame b frame) frames

-- frames that aren't empty and fit into a block
abbrev pub MayStandInBlock : ℕ → List ℕ → Type 0
MayStandInBlock size frame = (0 < length frame) × (4 + length frame ≤ size)

-- What a sink writes of frames are their greedy blocks, and these are the only ones.
pub record BlocksAreGreedy : Type 0 where
  pub greedy : (size : ℕ) (frames : List (List ℕ)) → AllByRecursion (MayStandInBlock size) frames
      → AreBlocksOf size frames (blocks_from (empty size) frames)
  pub only : (size : ℕ) (frames : List (List ℕ)) (bytes : List ℕ) → AllByRecursion (MayStandInBlock size) frames → AreBlocksOf size frames bytes
      → bytes ≡ blocks_from (empty size) frames
