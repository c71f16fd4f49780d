-- Words behind a heading, read turn by turn.
use Rattle.std.proofs.Common.{◌≡◌, ◌⊎◌, inl, inr, ℕ, ◌+◌, ◌<◌, ◌≤◌, Bool, true, false, nat_eq, List, [], ◌∷◌, ◌++◌, length, map, refl, sym, ap, subst, ◌∙◌, append-nil, arith}
use Rattle.std.proofs.lemmas.List.{length-append}
use Rattle.std.specs.List.{AllByRecursion}
use Rattle.cob_codec.specs.declared.reading.Reading.TheVariants.{Pictured}
use Rattle.cob_limits.specs.Limits.{most_written_out}
use Rattle.cob_source.specs.Tokens.{Lexeme}
use Rattle.cob_move_data.specs.declared.operands.StatementMoves.{StatementMoves}
use Rattle.cob_move_data.specs.Moves.{AreMoves, Records, moves}
use Rattle.cob_move_deeds.specs.declared.flow.Bound.{Bound}
use Rattle.cob_move_deeds.specs.declared.flow.CountedLoop.{CountedLoop}
use Rattle.cob_move_apply.specs.declared.marked.MarkedMoves.{MarkedMoves}
use Rattle.cob_move_deeds.specs.Deeds.{Deeds, IsStraight, moves_of_deeds}
use Rattle.cob_move_deeds.specs.Prepared.{AreDeedsPrepared, MayBeAsked, deeds_of}
use Rattle.cob_move_deeds.specs.declared.ready.ReadyDeeds.{ReadyDeeds}
use Rattle.cob_move_apply.specs.Entries.{IsPlacedEntry}
use Rattle.cob_move_tests.specs.Asked.{IsAsked, IsSubscriptedEntry, kind_named}
use Rattle.cob_move_condition.specs.Tested.{MayBeTested}
use Rattle.cob_move_deeds.specs.declared.flow.Asked.{Asked}
use Rattle.cob_move_deeds.specs.Flows.{AreFlows, FlowSupport, support_of}
use Rattle.cob_move_apply.specs.Marked.{AreMarkedPrepared, RiseUpTo, ends_of_marks}
use Rattle.cob_move_apply.specs.Prepared.{moves_of}
use Rattle.cob_move_deeds.specs.Tests.{IsBound, Test}
use Rattle.cob_move_loops.specs.Bounded.{AreBounded, LacksBound}
use Rattle.cob_move_loops.specs.Few.{opening_line}
use Rattle.cob_move_loops.specs.Passages.{IsPassage, Passage}
use Rattle.cob_move_statements.specs.declared.fault.MoveFault.{MoveFault}
use Rattle.cob_move_statements.specs.declared.fault.MoveRule.{MoveRule}
use Rattle.cob_move_statements.specs.declared.fault.MoveRule.TheVariants as rule
use Rattle.std.specs.Global.{Vec}
use Rattle.cob_move.specs.declared.made.Made.{Made}
use Rattle.cob_move.specs.declared.made.NotRead.{NotRead}
use Rattle.cob_move.specs.declared.made.NotRead.TheVariants as why
use Rattle.cob_move_tests.specs.declared.entries.Entries.{Entries}
use Rattle.cob_move_tests.specs.Entries.{nameable, records_of}
use Rattle.cob_move.specs.DeedsRead.{AddsDeeds, DeedsRefused, HasTests, IsFrontOf, IsMade, MadeLists, IsReadied, SaysDeeds, TellsFault, TurnRefused, all_deeds, closed, named_of, closed_where, last_marked, made_deeds, made_lists, nothing_made, open_deeds}
use Rattle.cob_move.specs.Loops.{HasJudged}
use Rattle.cob_move.specs.Bodies.{IsPassageRefusal}
use Rattle.cob_move.specs.Paragraphs.{AreReady}
use Rattle.cob_move.specs.Pieces.{IsRefusedMemory}
use Rattle.cob_move.proofs.AskedLemmas.{may_be_asked}
use Rattle.cob_move.proofs.CloseLemmas.{closed_deeds, closed_flows, closed_grown, equal_is, rise_more}
use Rattle.cob_move.proofs.MadeLemmas.{front_back}
use Rattle.cob_move.proofs.WholeLemmas.{moves_of_open}

pub empty_made : (r : Records) → IsMade r nothing_made
empty_made r = record {
  moves = tt;
  ends = refl;
  behind = omega arith;
  bounds = tt;
  asked = tt;
  conditions = tt;
  flows = λ on f. record { each = tt; nested = refl };
  parted = λ on f. tt;
  few = omega arith;
}

-- ---- why they are not read

pub memory_refuses : (f : MoveFault) (e : Entries) (body : List Lexeme) → IsRefusedMemory f → DeedsRefused f e body
memory_refuses f e body is = subst (λ (g : MoveFault). DeedsRefused g e body) (sym is) (inl refl)

pub body_refused : (n : NotRead) (f : MoveFault) (e : Entries) (body : List Lexeme) (p : Passage) → IsPassage p body → HasTests body → TellsFault n f body → TurnRefused n e [] body nothing_made → DeedsRefused f e body
body_refused why.Memory f e body p is item told refused = memory_refuses f e body told
body_refused why.TooMany f e body p is item told refused =
    let (m, first, most) = refused p is in
    inr (p, is, inr (inl (told.0, told.1, item p is, (m, first, omega (arith, most)))))
body_refused (why.Broken g) f e body p is item told refused = subst (λ (h : MoveFault). DeedsRefused h e body) (sym told) (inr (p, is, inr (inr (refused p is).1)))

pub unbounded_refused : (f : MoveFault) (e : Entries) (body : List Lexeme) (p : Passage) → IsPassage p body → f.rule ≡ rule.Counter → ((q : Passage) → IsPassage q body → LacksBound q f.line) → DeedsRefused f e body
unbounded_refused f e body p is same lacks = inr (p, is, inl (same, lacks p is))

-- ---- what they come to

pub body_front : (m : MadeLists) (moves : MarkedMoves) (loops : List CountedLoop) (asked : Asked) → moves.moves.reading ≡ Pictured → moves.moves.statements.items ≡ m.list → ends_of_marks moves ≡ 0 ∷ m.ends
    → map named_of asked.entries.items ≡ m.asked → asked.conditions.items ≡ m.conditions → IsFrontOf m (support_of moves m.bounds loops asked)
body_front m moves loops asked reading statements ends entries conditions = record {
  reading = reading;
  statements = ([], statements ∙ sym (append-nil m.list));
  marks = ([], ends ∙ ap (λ (t : List ℕ). 0 ∷ t) (sym (append-nil m.ends)));
  bounds = ([], sym (append-nil m.bounds));
  asked = ([], entries ∙ sym (append-nil m.asked));
  conditions = ([], conditions ∙ sym (append-nil m.conditions));
}

rise_where : (b : Bool) (r : Records) (m : MadeLists) → b ≡ nat_eq (length m.list) (last_marked 0 m.ends) → IsMade r m → RiseUpTo 0 (length (closed_where b m).list) (closed_where b m).ends
rise_where true r m e is = subst (λ (n : ℕ). RiseUpTo 0 n m.ends) (sym (equal_is (length m.list) (last_marked 0 m.ends) (sym e))) is.ends
rise_where false r m e is = rise_more 0 (last_marked 0 m.ends) (length m.list) m.ends is.behind is.ends

pub body_ends : (r : Records) (m : MadeLists) → IsMade r m → RiseUpTo 0 (length (closed m).list) (closed m).ends
body_ends r m is = rise_where (nat_eq (length m.list) (last_marked 0 m.ends)) r m refl is

moves_where : (b : Bool) (r : Records) (m : MadeLists) → IsMade r m → AreMoves r (moves r (closed_where b m).list)
moves_where true r m is = is.moves
moves_where false r m is = is.moves

pub body_moves : (r : Records) (m : MadeLists) → IsMade r m → AreMoves r (moves r (closed m).list)
body_moves r m is = moves_where (nat_eq (length m.list) (last_marked 0 m.ends)) r m is

bounds_where : (b : Bool) (r : Records) (m : MadeLists) → IsMade r m → AllByRecursion (IsBound r) (closed_where b m).bounds
bounds_where true r m is = is.bounds
bounds_where false r m is = is.bounds

pub body_bounds : (r : Records) (m : MadeLists) → IsMade r m → AllByRecursion (IsBound r) (closed m).bounds
body_bounds r m is = bounds_where (nat_eq (length m.list) (last_marked 0 m.ends)) r m is

tested_where : (b : Bool) (r : Records) (m : MadeLists) → IsMade r m → AllByRecursion (MayBeTested (IsAsked (closed_where b m).asked) (kind_named r (closed_where b m).asked)) (closed_where b m).conditions
tested_where true r m is = is.conditions
tested_where false r m is = is.conditions

body_tested : (r : Records) (m : MadeLists) → IsMade r m → AllByRecursion (MayBeTested (IsAsked (closed m).asked) (kind_named r (closed m).asked)) (closed m).conditions
body_tested r m is = tested_where (nat_eq (length m.list) (last_marked 0 m.ends)) r m is

asked_where : (b : Bool) (r : Records) (m : MadeLists) → IsMade r m → AllByRecursion (IsSubscriptedEntry r) (closed_where b m).asked
asked_where true r m is = is.asked
asked_where false r m is = is.asked

pub now_asked : (r : Records) (m now : MadeLists) → IsMade r m → now ≡ closed m → AllByRecursion (IsSubscriptedEntry r) now.asked
now_asked r m now is same =
    subst (λ (t : MadeLists). AllByRecursion (IsSubscriptedEntry r) t.asked) (sym same) (asked_where (nat_eq (length m.list) (last_marked 0 m.ends)) r m is)

-- what was put together of what is made
pub record IsPutTogether (r : Records) (m : MadeLists) (moves_made : MarkedMoves) (loops : List CountedLoop) (asked : Asked) (d : ReadyDeeds) : Type 0 where
  pub reading : moves_made.moves.reading ≡ Pictured
  pub statements : moves_made.moves.statements.items ≡ m.list
  pub ends : ends_of_marks moves_made ≡ 0 ∷ m.ends
  pub are : moves_of r moves_made.moves ≡ moves r m.list
  pub marked : AreMarkedPrepared r moves_made
  pub same : d.moves ≡ moves_made
  pub deeds : deeds_of r d ≡ all_deeds r (support_of moves_made m.bounds loops asked) m.flows
  pub entries : map named_of asked.entries.items ≡ m.asked
  pub conditions : asked.conditions.items ≡ m.conditions
  pub placed : AllByRecursion (IsPlacedEntry r) asked.entries.items
  pub prepared : AreMarkedPrepared r moves_made → AllByRecursion (IsBound r) m.bounds → MayBeAsked r (support_of moves_made m.bounds loops asked) → AreFlows (support_of moves_made m.bounds loops asked) m.flows → AreDeedsPrepared r d

closed_list_is : (m : MadeLists) → (closed m).list ≡ m.list
closed_list_is m = list_where (nat_eq (length m.list) (last_marked 0 m.ends)) m
  where
    list_where : (b : Bool) (m : MadeLists) → (closed_where b m).list ≡ m.list
    list_where true m = refl
    list_where false m = refl

-- so what is made is made ready
pub readied : (r : Records) (m now : MadeLists) (moves_made : MarkedMoves) (loops : List CountedLoop) (asked : Asked) (d : ReadyDeeds) → IsMade r m → now ≡ closed m → IsPutTogether r now moves_made loops asked d → IsReadied r m d
readied r m now moves_made loops asked d is same put =
    let k : IsPutTogether r (closed m) moves_made loops asked d = subst (λ (t : MadeLists). IsPutTogether r t moves_made loops asked d) same put in
    let on = support_of moves_made (closed m).bounds loops asked in
    let front : IsFrontOf (closed m) on = body_front (closed m) moves_made loops asked k.reading k.statements k.ends k.entries k.conditions in record {
      prepared = k.prepared k.marked (body_bounds r m is) (may_be_asked r on (closed m).asked (closed m).conditions k.entries k.conditions k.placed (body_tested r m is)) (closed_flows r m is on front);
      comes = λ own so. k.deeds ∙ closed_deeds r m is on front ∙ so on (front_back m (closed m) on (closed_grown m) front);
      moves = ap (λ (t : MarkedMoves). moves_of r t.moves) k.same ∙ k.are ∙ ap (λ (ss : List StatementMoves). moves r ss) (closed_list_is m);
      ends = ap (λ (t : MarkedMoves). ends_of_marks t) k.same ∙ k.ends;
    }

-- and it stays so where the same is carried out
pub still_readied : (r : Records) (m : MadeLists) (d e : ReadyDeeds) → IsReadied r m d → e.moves ≡ d.moves → deeds_of r e ≡ deeds_of r d → (AreDeedsPrepared r d → AreDeedsPrepared r e) → IsReadied r m e
still_readied r m d e is same deeds prepared = record {
  prepared = prepared is.prepared;
  comes = λ own so. deeds ∙ is.comes own so;
  moves = ap (λ (t : MarkedMoves). moves_of r t.moves) same ∙ is.moves;
  ends = ap (λ (t : MarkedMoves). ends_of_marks t) same ∙ is.ends;
}

pub now_moves : (r : Records) (m now : MadeLists) → IsMade r m → now ≡ closed m → AreMoves r (moves r now.list)
now_moves r m now is same = subst (λ (t : MadeLists). AreMoves r (moves r t.list)) (sym same) (body_moves r m is)

pub now_ends : (r : Records) (m now : MadeLists) → IsMade r m → now ≡ closed m → RiseUpTo 0 (length now.list) now.ends
now_ends r m now is same = subst (λ (t : MadeLists). RiseUpTo 0 (length t.list) t.ends) (sym same) (body_ends r m is)

-- what is made is ready, where its moves are those that may be carried out, and a mark stands where there is a test
pub made_ready : (r : Records) (m : MadeLists) (d : ReadyDeeds) (own : Deeds Test) → IsReadied r m d → ((on : FlowSupport) → IsFrontOf m on → made_deeds r on m ≡ own)
    → moves r m.list ≡ moves_of_deeds own → (IsStraight own → m.ends ≡ []) → (deeds_of r d ≡ own) × AreReady r d
made_ready r m d own is comes whole straight =
    let same : deeds_of r d ≡ own = is.comes own comes in (
      same,
      record {
        prepared = is.prepared;
        all = ap (λ (k : Deeds Test). moves_of_deeds k) same ∙ sym whole ∙ sym is.moves;
        together = λ s. omega (arith, ap length is.ends, few_marks m (straight (subst (λ (k : Deeds Test). IsStraight k) same s)));
      },
    )
  where
    marks_where : (b : Bool) (m : MadeLists) → m.ends ≡ [] → length (closed_where b m).ends ≤ 1
    marks_where true m none = omega (arith, ap length none)
    marks_where false m none = omega (arith, ap length none, length-append m.ends (length m.list ∷ []))

    few_marks : (m : MadeLists) → m.ends ≡ [] → length (closed m).ends ≤ 1
    few_marks m none = marks_where (nat_eq (length m.list) (last_marked 0 m.ends)) m none

-- statements, and nothing else
abbrev pub list_made : List StatementMoves → MadeLists
list_made list = record { list = list; ends = []; bounds = []; asked = []; conditions = []; flows = []; read = 0 }

-- nothing made yet, with these statements in its place
pub set_list : (new : Made) (list : Vec StatementMoves) → made_lists new ≡ nothing_made → made_lists (record { list = list; ends = new.ends; bounds = new.bounds; asked = new.asked; conditions = new.conditions; flows = new.flows; read = new.read }) ≡ list_made list.items
set_list new list none = λ i. record { list = list.items; ends = (none i).ends; bounds = (none i).bounds; asked = (none i).asked; conditions = (none i).conditions; flows = (none i).flows; read = (none i).read }

pub list_is_made : (r : Records) (list : List StatementMoves) → AreMoves r (moves r list) → IsMade r (list_made list)
list_is_made r list given = record {
  moves = given;
  ends = refl;
  behind = omega arith;
  bounds = tt;
  asked = tt;
  conditions = tt;
  flows = λ on f. record { each = tt; nested = refl };
  parted = λ on f. tt;
  few = omega arith;
}

pub list_ready : (r : Records) (list : List StatementMoves) (m : MadeLists) (d : ReadyDeeds) → m ≡ list_made list → IsReadied r m d → (deeds_of r d ≡ open_deeds r list) × AreReady r d
list_ready r list m d same is =
    made_ready r (list_made list) d (open_deeds r list) (subst (λ (k : MadeLists). IsReadied r k d) same is) (λ on f. refl) (moves_of_open r list) (λ s. refl)

-- words behind a heading come to what was made of them
pub tested_ready : (e : Entries) (body : List Lexeme) (m : MadeLists) (d : ReadyDeeds) (h : HasJudged (nameable e) body) → AreBounded h.passage
    → AddsDeeds e [] body nothing_made m → IsReadied (records_of e) m d → SaysDeeds e body (deeds_of (records_of e) d) × AreReady (records_of e) d
tested_ready e body m d h bounded adds is =
    let a = adds h.passage h.says in
    let k = made_ready (records_of e) m d a.deeds is a.added a.whole a.straight in (
      subst (λ (t : Deeds Test). SaysDeeds e body t) (sym k.0) (record { judged = h; bounded = bounded; many = a.many; comes = a.are; few = λ none many first. omega (arith, a.few (omega arith) many first) }),
      k.1,
    )
