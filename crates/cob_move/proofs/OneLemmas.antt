-- A statement has one meaning at most.
use Rattle.std.proofs.Common.{◌≡◌, List, [], ◌∷◌, ◌++◌, map, sym, ap, ◌∙◌}
use Rattle.cob_codec.specs.declared.reading.Reading.TheVariants.{Pictured}
use Rattle.cob_copybook_entry.specs.Described.{PlainValue}
use Rattle.cob_move_apply.proofs.EntryOneList.{one_constant}
use Rattle.cob_move_data.specs.declared.operands.Side.{Side}
use Rattle.cob_move_data.specs.declared.operands.Side.TheVariants.{Out}
use Rattle.cob_move_data.specs.declared.operands.Operand.{Operand}
use Rattle.cob_move_data.specs.Moves.{Sender, Entry, Literal, Move}
use Rattle.cob_move_statements.specs.Written.{WrittenReference, WrittenSender, SentReference, SentConstant, MoveTo, MoveCorresponding}
use Rattle.cob_move_names.specs.Candidates.{Candidate}
use Rattle.cob_move_names.specs.Laws.{OneNamed}
use Rattle.cob_move.specs.declared.corresponding.TwoGroups.{TwoGroups}
use Rattle.cob_move.specs.Meaning.{AreGroupsOf, AreReceiversOf, IsMoveOf, pair_move, pairs_of}
use Rattle.cob_move_names.specs.Senders.{IsSenderOf}
use Rattle.cob_move.specs.MeaningLaws.{OneMeaning, OneMeant}

pub one_sender : OneNamed → (all : List Candidate) (s : WrittenSender) (m n : Sender) → IsSenderOf all s m → IsSenderOf all s n → m ≡ n
one_sender law all (SentReference r) m n (s, o, h, e) (t, p, k, f) =
    let same : (s ≡ t) × (o ≡ p) = law all r s t o p h k in
    e ∙ ap (λ (x : Side). Entry x Pictured o) same.0 ∙ ap (λ (x : Operand). Entry t Pictured x) same.1 ∙ sym f
one_sender law all (SentConstant w) m n (c, h, e) (d, k, f) = e ∙ ap (λ (x : PlainValue). Literal x) (one_constant w c d h k) ∙ sym f

one_receivers : OneNamed → (all : List Candidate) (ws : List WrittenReference) (os ps : List Operand) → AreReceiversOf all ws os → AreReceiversOf all ws ps → os ≡ ps
one_receivers law all [] os ps h k = h ∙ sym k
one_receivers law all (w ∷ ws) os ps (o, more, h, hs, e) (p, rest, k, ks, f) =
    let same : (Out ≡ Out) × (o ≡ p) = law all w Out Out o p h k in
    e ∙ ap (λ (x : Operand). x ∷ more) same.1 ∙ ap (λ (xs : List Operand). p ∷ xs) (one_receivers law all ws more rest hs ks) ∙ sym f

one_move : OneNamed → (all : List Candidate) (s : WrittenSender) (ws : List WrittenReference) (m n : Move) → IsMoveOf all s ws m → IsMoveOf all s ws n → m ≡ n
one_move law all s ws m n h k =
    ap (λ (x : Sender). record { sender = x; receivers = m.receivers }) (one_sender law all s m.sender n.sender h.sender k.sender)
    ∙ ap (λ (xs : List Operand). record { sender = n.sender; receivers = xs }) (one_receivers law all ws m.receivers n.receivers h.receivers k.receivers)

pub one_groups : OneNamed → (all : List Candidate) (from to : WrittenReference) (g h : TwoGroups) → AreGroupsOf all from to g → AreGroupsOf all from to h → g ≡ h
one_groups law all from to g h a b =
    let sent : (g.side ≡ h.side) × (g.from ≡ h.from) = law all from g.side h.side g.from h.from a.sending b.sending in
    let received : (Out ≡ Out) × (g.to ≡ h.to) = law all to Out Out g.to h.to a.receiving b.receiving in
    ap (λ (x : Side). record { side = x; from = g.from; to = g.to }) sent.0
    ∙ ap (λ (x : Operand). record { side = h.side; from = x; to = g.to }) sent.1
    ∙ ap (λ (x : Operand). record { side = h.side; from = h.from; to = x }) received.1

pub one_meaning : OneNamed → OneMeaning
one_meaning law all input output (MoveTo s ws) ms ns (m, h, e) (n, k, f) = e ∙ ap (λ (x : Move). x ∷ []) (one_move law all s ws m n h k) ∙ sym f
one_meaning law all input output (MoveCorresponding from to) ms ns h k =
    h.moves ∙ ap (λ (g : TwoGroups). map (pair_move g) (pairs_of input output g)) (one_groups law all from to h.groups k.groups h.named k.named) ∙ sym k.moves

pub one_meant : OneMeaning → OneMeant
one_meant law all input output [] ms ns h k = h ∙ sym k
one_meant law all input output (s ∷ ss) ms ns (own, more, h, hs, e) (other, rest, k, ks, f) =
    e ∙ ap (λ (xs : List Move). xs ++ more) (law all input output s.action own other h k)
    ∙ ap (λ (xs : List Move). other ++ xs) (one_meant law all input output ss more rest hs ks) ∙ sym f
