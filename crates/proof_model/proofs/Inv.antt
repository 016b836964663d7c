-- The invariant, cut where the wire is cut: what the sender says of the wire's end (Tail), what the receiver says of its beginning (Head), and
-- what the flits between say of each other (Wire, of Chain.antt). A call of an end touches the end of one wire and the beginning of the
-- other. A receiver that runs stands where its wire begins; of one that waits nothing is said but that it is not past what was sent.
use mathlib.Core.Path.{◌≡◌}
use mathlib.Core.Bool.{false}
use mathlib.Core.List.{List}
use Prim.Native.Nat.{ℕ, suc, ◌+◌, ◌≤◌, ◌<◌}
use lib.ListN.{length}
use Rattle.proof_model.proofs.Stream.{Stream, owed, num, first, Item}
use Rattle.proof_model.proofs.End.{Mode, run, wait, down, Sender, Receiver, End}
use Rattle.proof_model.proofs.Chain.{Chain, final, Rest, Wire}

-- of one end alone: f is its stream
pub record Local (C : ℕ) (f : Stream) (s : Sender) : Type 0 where
  pub begun : s.oldest ≤ s.cursor
  pub behind : s.cursor ≤ s.sent
  pub given : s.sent ≤ s.accepted
  pub freed : num f s.oldest ≤ s.acked
  pub kept : s.acked < num f (suc s.oldest)
  pub past : s.acked ≤ num f s.sent
  pub fits : num f s.accepted ≤ num f s.oldest + C
  pub cut : (i : ℕ) → i < s.accepted → length (f i).parts ≡ owed f i

-- the receiver runs, and stands where the wire begins
pub record Runs (f : Stream) (c : Chain) (a : ℕ) (r : Receiver) : Type 0 where
  pub pos : r.position ≡ c.pos
  pub hold : r.hold ≡ c.got
  pub bit : r.stalled ≡ c.stalled
  pub owes : r.owes ≡ owed f c.pos
  pub told : a ≡ c.told
  pub behind : r.position ≤ r.wanted

abbrev pub At : Stream → Chain → ℕ → Receiver → Mode → Type 0
At f c a r run = Runs f c a r
At f c a r wait = Unit {0}
At f c a r down = ⊥

-- what the sender's end of a wire says: c is where the wire ends
pub record Tail (f g : Stream) (x : End) (c : Chain) : Type 0 where
  pub rest : Rest f c
  pub place : x.s.pending ≡ false → c.pos ≡ x.s.cursor
  pub hi : c.hi ≤ x.s.sent
  pub lo : c.lo ≤ x.s.oldest
  pub told : c.told + x.r.untold ≡ num g x.r.wanted

-- what the receiver's end says: c is where the wire begins
pub record Head (f : Stream) (c : Chain) (r : End) : Type 0 where
  pub hi : r.r.wanted ≤ c.hi
  pub acked : r.s.acked ≤ c.told
  pub at : At f c r.s.acked r.r r.r.mode
  pub out : r.r.out ≡ first f r.r.wanted

-- a direction: f is the sender's stream, g the receiver's
pub record Way (C : ℕ) (f g : Stream) (x : End) (l : List Item) (c : Chain) (r : End) : Type 0 where
  pub wire : Wire C f c l
  pub tail : Tail f g x (final c l)
  pub head : Head f c r

-- the two ends, seen from e; f is the stream of e, g that of the other end p
pub record Inv (C : ℕ) (f g : Stream) (e p : End) (l m : List Item) (c d : Chain) : Type 0 where
  pub own : Local C f e.s
  pub other : Local C g p.s
  pub to : Way C f g e l c p
  pub from : Way C g f p m d e
