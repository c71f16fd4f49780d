-- The single moves of statements, and those of the moves that the statements mean.
use Rattle.std.proofs.Common.{◌≡◌, ℕ, ◌+◌, List, [], ◌∷◌, ◌++◌, drop, map, refl, sym, ap, ◌∙◌, inl, inr, append-nil, append_assoc}
use Rattle.std.specs.Prelude.{None, Some, slice_get}
use Rattle.std.proofs.lemmas.List.{at_drop_more, drop_all, map-append}
use Rattle.std.proofs.lemmas.Option.{get_or_from_slice_get, none-some, slice_get_cases, slice_get_within}
use Rattle.std.proofs.lemmas.List.Concat.{flat_map-cons}
use Rattle.cob_codec.specs.declared.reading.Reading.{Reading}
use Rattle.cob_move_data.specs.Moves.{Move, Records, Sender, moves_by, numbered_move_by, operand_in, sender_by, statement_moves_by}
use Rattle.cob_move_data.specs.declared.operands.NumberedPair.{NumberedPair}
use Rattle.cob_move_data.specs.declared.operands.PairMoves.{PairMoves}
use Rattle.cob_move_data.specs.declared.operands.Sender as code
use Rattle.cob_move_data.specs.declared.operands.Sender.TheVariants as code_sender
use Rattle.cob_move_data.specs.declared.operands.StatementMoves.{StatementMoves}
use Rattle.cob_move_data.specs.declared.operands.StatementMoves.TheVariants.{Single, Pairs}
use Rattle.cob_layout_places.specs.declared.reference.Ref.{Ref}
use Rattle.cob_move_data.specs.Singles.{PlainSent, PlainSingle, SingleMove, all_singles, placed_singles, sender_between, senders_behind, senders_of, sent_by_pair, sent_by_sender, single_between, single_of_pair, single_to, singles_behind, singles_from, statement_senders, statement_singles}

-- what a sender sends is sent between the records
sent_between : (reading : Reading) (records : Records) (s : code.Sender) → sender_by reading records s ≡ sender_between reading records (sent_by_sender s)
sent_between reading records (code_sender.Entry side entry) = refl
sent_between reading records (code_sender.Constant value) = refl

-- ---- of one statement

of_receivers : (reading : Reading) (records : Records) (statement : ℕ) (sent : PlainSent) (rs : List Ref)
    → singles_from (sender_between reading records sent) (map (operand_in records.output) rs) ≡ map (single_between reading records) (map (single_to statement sent) rs)
of_receivers reading records statement sent [] = refl
of_receivers reading records statement sent (r ∷ rs) =
    ap (λ (ss : List SingleMove). single_between reading records (single_to statement sent r) ∷ ss) (of_receivers reading records statement sent rs)

of_pairs : (reading : Reading) (records : Records) (statement : ℕ) (g : PairMoves) (ps : List NumberedPair)
    → all_singles (map (numbered_move_by reading records g) ps) ≡ map (single_between reading records) (map (single_of_pair statement g) ps)
of_pairs reading records statement g [] = refl
of_pairs reading records statement g (p ∷ ps) =
    ap (λ (ss : List SingleMove). single_between reading records (single_of_pair statement g p) ∷ ss) (of_pairs reading records statement g ps)

of_statement : (reading : Reading) (records : Records) (statement : ℕ) (s : StatementMoves)
    → all_singles (statement_moves_by reading records s) ≡ map (single_between reading records) (statement_singles statement s)
of_statement reading records statement (Single m) =
    append-nil (singles_from (sender_by reading records m.sender) (map (operand_in records.output) m.receivers.items))
    ∙ ap (λ (s : Sender). singles_from s (map (operand_in records.output) m.receivers.items)) (sent_between reading records m.sender)
    ∙ of_receivers reading records statement (sent_by_sender m.sender) m.receivers.items
of_statement reading records statement (Pairs g) = of_pairs reading records statement g g.pairs.items

-- ---- of all statements

pub all_singles-append : (ms ns : List Move) → all_singles (ms ++ ns) ≡ all_singles ms ++ all_singles ns
all_singles-append [] ns = refl
all_singles-append (m ∷ ms) ns =
    ap (λ (ss : List SingleMove). singles_from m.sender m.receivers ++ ss) (all_singles-append ms ns)
    ∙ sym (append_assoc (singles_from m.sender m.receivers) (all_singles ms) (all_singles ns))

-- the single moves of the moves that statements mean
pub of_placed : (reading : Reading) (records : Records) (statement : ℕ) (ss : List StatementMoves)
    → all_singles (moves_by reading records ss) ≡ map (single_between reading records) (placed_singles statement ss)
of_placed reading records statement [] = refl
of_placed reading records statement (s ∷ ss) =
    ap all_singles (flat_map-cons (statement_moves_by reading records) s ss)
    ∙ all_singles-append (statement_moves_by reading records s) (moves_by reading records ss)
    ∙ ap (λ (ls : List SingleMove). ls ++ all_singles (moves_by reading records ss)) (of_statement reading records statement s)
    ∙ ap (λ (ls : List SingleMove). map (single_between reading records) (statement_singles statement s) ++ ls) (of_placed reading records (statement + 1) ss)
    ∙ sym (map-append (single_between reading records) (statement_singles statement s) (placed_singles (statement + 1) ss))

-- ---- what is sent

of_senders : (reading : Reading) (records : Records) (g : PairMoves) (ps : List NumberedPair)
    → map (λ (m : Move). m.sender) (map (numbered_move_by reading records g) ps)
    ≡ map (sender_between reading records) (map (sent_by_pair g) ps)
of_senders reading records g [] = refl
of_senders reading records g (p ∷ ps) = ap (λ (ss : List Sender). numbered_sender ∷ ss) (of_senders reading records g ps)
  where
    numbered_sender : Sender
    numbered_sender = (numbered_move_by reading records g p).sender

statement_sends : (reading : Reading) (records : Records) (s : StatementMoves)
    → map (λ (m : Move). m.sender) (statement_moves_by reading records s) ≡ map (sender_between reading records) (statement_senders s)
statement_sends reading records (Single m) = ap (λ (s : Sender). s ∷ []) (sent_between reading records m.sender)
statement_sends reading records (Pairs g) = of_senders reading records g g.pairs.items

-- what the moves send that statements mean
pub of_sent : (reading : Reading) (records : Records) (ss : List StatementMoves)
    → map (λ (m : Move). m.sender) (moves_by reading records ss) ≡ map (sender_between reading records) (senders_of ss)
of_sent reading records [] = refl
of_sent reading records (s ∷ ss) =
    ap (map (λ (m : Move). m.sender)) (flat_map-cons (statement_moves_by reading records) s ss)
    ∙ map-append (λ (m : Move). m.sender) (statement_moves_by reading records s) (moves_by reading records ss)
    ∙ ap (λ (ls : List Sender). ls ++ map (λ (m : Move). m.sender) (moves_by reading records ss)) (statement_sends reading records s)
    ∙ ap (λ (ls : List Sender). map (sender_between reading records) (statement_senders s) ++ ls) (of_sent reading records ss)
    ∙ sym (map-append (sender_between reading records) (statement_senders s) (senders_of ss))

-- ---- one behind another

next_element : {X : Type 0} (xs ys : List X) (i : ℕ) (x : X) → slice_get xs i ≡ Some x → drop i xs ++ ys ≡ x ∷ (drop (i + 1) xs ++ ys)
next_element {X} xs ys i x there =
    at_drop_more (λ (zs : List X). zs ++ ys) xs i x (slice_get_within xs i x there) ∙ ap (λ (z : X). z ∷ (drop (i + 1) xs ++ ys)) (get_or_from_slice_get xs i x x there)

none_left : {X : Type 0} (xs : List X) (i : ℕ) → slice_get xs i ≡ None → drop i xs ≡ []
none_left xs i none = elim (slice_get_cases xs i).1 [
  | inl found ↦ absurd (none-some found.0 (sym none ∙ found.2))
  | inr past ↦ drop_all i xs past.0
]

-- the next single move of the first statement is taken
pub taken : (statement number : ℕ) (s : StatementMoves) (ss all : List StatementMoves) (x : PlainSingle) → all ≡ s ∷ ss → Some x ≡ slice_get (statement_singles statement s) number
    → singles_behind statement number all ≡ x ∷ singles_behind statement (number + 1) all
taken statement number s ss all x is there =
    ap (singles_behind statement number) is
    ∙ next_element (statement_singles statement s) (placed_singles (statement + 1) ss) number x (sym there)
    ∙ ap (λ (ts : List StatementMoves). x ∷ singles_behind statement (number + 1) ts) (sym is)

none_taken : (statement : ℕ) (ss : List StatementMoves) → placed_singles statement ss ≡ singles_behind statement 0 ss
none_taken statement [] = refl
none_taken statement (s ∷ ss) = refl

-- all single moves of the first statement are taken
pub all_taken : (statement number : ℕ) (s : StatementMoves) (ss all : List StatementMoves) → all ≡ s ∷ ss → None ≡ slice_get (statement_singles statement s) number
    → singles_behind statement number all ≡ singles_behind (statement + 1) 0 ss
all_taken statement number s ss all is none =
    ap (singles_behind statement number) is
    ∙ ap (λ (xs : List PlainSingle). xs ++ placed_singles (statement + 1) ss) (none_left (statement_singles statement s) number (sym none))
    ∙ none_taken (statement + 1) ss

-- the sender of the next move of the first statement is taken
pub sender_taken : (number : ℕ) (s : StatementMoves) (ss all : List StatementMoves) (x : PlainSent) → all ≡ s ∷ ss → Some x ≡ slice_get (statement_senders s) number
    → senders_behind number all ≡ x ∷ senders_behind (number + 1) all
sender_taken number s ss all x is there =
    ap (senders_behind number) is ∙ next_element (statement_senders s) (senders_of ss) number x (sym there)
    ∙ ap (λ (ts : List StatementMoves). x ∷ senders_behind (number + 1) ts) (sym is)

no_sender_taken : (ss : List StatementMoves) → senders_of ss ≡ senders_behind 0 ss
no_sender_taken [] = refl
no_sender_taken (s ∷ ss) = refl

-- the senders of all moves of the first statement are taken
pub all_senders_taken : (number : ℕ) (s : StatementMoves) (ss all : List StatementMoves) → all ≡ s ∷ ss → None ≡ slice_get (statement_senders s) number
    → senders_behind number all ≡ senders_behind 0 ss
all_senders_taken number s ss all is none =
    ap (senders_behind number) is ∙ ap (λ (xs : List PlainSent). xs ++ senders_of ss) (none_left (statement_senders s) number (sym none)) ∙ no_sender_taken ss

-- ---- loops over what is left

-- what a loop has made of those before is followed by what f makes of those that are left
pub mapped_more : {X Y : Type 0} (f : X → Y) (all : List Y) (now later : List X) (x : X) (y : Y) (made pushed : List Y) → now ≡ x ∷ later → y ≡ f x → pushed ≡ made ++ y ∷ []
    → made ++ map f now ≡ all → pushed ++ map f later ≡ all
mapped_more {X} {Y} f all now later x y made pushed is so push before =
    ap (λ (ys : List Y). ys ++ map f later) push ∙ append_assoc made (y ∷ []) (map f later) ∙ ap (λ (z : Y). made ++ z ∷ map f later) so
    ∙ ap (λ (xs : List X). made ++ map f xs) (sym is) ∙ before

-- none are left
pub mapped_done : {X Y : Type 0} (f : X → Y) (all : List Y) (now : List X) (made : List Y) → now ≡ [] → made ++ map f now ≡ all → made ≡ all
mapped_done {X} f all now made is before = sym (append-nil made) ∙ ap (λ (xs : List X). made ++ map f xs) (sym is) ∙ before
