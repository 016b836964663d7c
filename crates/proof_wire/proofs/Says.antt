-- What the bytes of an arriving flit say of the flit that was meant, and what the receiver's half of a kept state stands for.
use mathlib.Core.Path.{◌≡◌, refl, ap}
use mathlib.Core.Bool.{Bool, true, false, ◌&&◌}
use mathlib.Core.List.{List, [], ◌∷◌, ◌++◌}
use Prim.Native.Nat.{ℕ, suc, ◌*◌, ◌≤◌, ◌<◌}
use lib.Dec.{eqb}
use lib.ListN.{length, take}
use Rattle.flit_number.specs.Numbers.{width, acknowledge_for}
use Rattle.crc.specs.Unit.{right}
use Rattle.flit_read.specs.Fields.{fields_of, replay_kind as replay_run, idle_kind as idle_run}
use Rattle.flit_write.specs.Flits.{bare_control}
use Rattle.end_state.specs.Ring.{flit_at}
use Rattle.end_state.specs.declared.End.{End}
use Rattle.end_state.specs.declared.Mode.{Mode as KeptMode}
use Rattle.end_state.specs.declared.Mode.TheVariants.{Run, Wait, Down}
use Rattle.proof_model.proofs.Stream.{Block, Stream, num, Flit, Item, part, control, idle, replay}
use Rattle.proof_model.proofs.End.{Mode, run, wait, down, Receiver}
use Rattle.proof_model.proofs.Chain.{Chain, after, final}
use Rattle.proof_wire.specs.Damage.{reads_replay}
use Rattle.proof_wire.specs.Theorem.{is_unit}
use Rattle.proof_wire.proofs.Pieces.{joined}
use Rattle.proof_wire.proofs.Wrap.{meaning, wrap}

-- ---- a flit on the wire: flit number `part` of a unit that was sent and arrives
pub record Flight : Type 0 where
  pub sent : List ℕ
  pub arrives : List ℕ
  pub part : ℕ

abbrev pub flit : Flight → List ℕ
flit y = flit_at y.arrives y.part

-- it is the last flit of a unit of the transaction layer
unfoldable pub ends_unit : Flight → Bool
ends_unit y = eqb (suc y.part * 64) (length y.arrives) && is_unit y.sent

pub record SaysControl (b : List ℕ) (n k : ℕ) (st : Bool) (x : List ℕ) : Type 0 where
  pub run : (fields_of x).run.0 ≡ n
  pub acks : (fields_of x).acks.0 ≡ k
  pub stalled : (fields_of x).stalled ≡ st
  pub short : (fields_of x).short ≡ false
  pub bare : bare_control x ≡ b
  pub le : n ≤ 8

pub record SaysIdle (n k : ℕ) (st : Bool) (x : List ℕ) : Type 0 where
  pub run : (fields_of x).run.0 ≡ idle_run
  pub acks : (fields_of x).acks.0 ≡ k
  pub stalled : (fields_of x).stalled ≡ st
  pub short : (fields_of x).short ≡ false
  pub owes : (fields_of x).stall.0 ≡ n

pub record SaysReplay (g : Stream) (na : Bool) (p n : ℕ) (st : Bool) (t : ℕ) (x : List ℕ) : Type 0 where
  pub run : (fields_of x).run.0 ≡ replay_run
  pub nack : (fields_of x).nack ≡ na
  pub stalled : (fields_of x).stalled ≡ st
  pub short : (fields_of x).short ≡ false
  pub owes : (fields_of x).previous.0 ≡ n
  pub le : n ≤ 8
  pub start : (fields_of x).start.0 ≡ wrap (num g p)
  pub last : (fields_of x).last.0 ≡ acknowledge_for meaning width (wrap t)

-- ok: whether its unit is right; got: the data flits of its unit that come before it
pub record ReadsPart (v : List ℕ) (y : Flight) : Type 0 where
  pub same : v ≡ flit y
  pub ends : ends_unit y ≡ false
  pub plain : reads_replay (flit y) ≡ false
  pub size : length (flit y) ≡ 64

pub record ReadsControl (got : List (List ℕ)) (b : List ℕ) (n k : ℕ) (st ok : Bool) (y : Flight) : Type 0 where
  pub right_is : right (joined got ++ flit y) ≡ ok
  pub ends : ends_unit y ≡ true
  pub plain : reads_replay (flit y) ≡ false
  pub size : length (flit y) ≡ 64
  pub says : ok ≡ true → SaysControl b n k st (flit y)
  pub whole : joined got ++ flit y ≡ y.arrives
  pub last : suc y.part * 64 ≡ length y.arrives
  pub same : ok ≡ true → y.arrives ≡ y.sent

pub record ReadsIdle (n k : ℕ) (st ok : Bool) (y : Flight) : Type 0 where
  pub right_is : right (flit y) ≡ ok
  pub ends : ends_unit y ≡ false
  pub size : length (flit y) ≡ 64
  pub says : ok ≡ true → SaysIdle n k st (flit y)

pub record ReadsReplay (g : Stream) (na : Bool) (p n : ℕ) (st : Bool) (t : ℕ) (ok : Bool) (y : Flight) : Type 0 where
  pub right_is : right (flit y) ≡ ok
  pub ends : ends_unit y ≡ false
  pub size : length (flit y) ≡ 64
  pub says : ok ≡ true → SaysReplay g na p n st t (flit y)

abbrev pub Reads : Stream → List (List ℕ) → Flit → Bool → Flight → Type 0
Reads g got (part v) ok y = ReadsPart v y
Reads g got (control b n k st) ok y = ReadsControl got b n k st ok y
Reads g got (idle k st n) ok y = ReadsIdle n k st ok y
Reads g got (replay na p n st t) ok y = ReadsReplay g na p n st t ok y

pub reads_size : (g : Stream) (got : List (List ℕ)) (x : Flit) (ok : Bool) (y : Flight) → Reads g got x ok y → length (flit y) ≡ 64
reads_size g got (part v) ok y h = h.size
reads_size g got (control b n k st) ok y h = h.size
reads_size g got (idle k st n) ok y h = h.size
reads_size g got (replay na p n st t) ok y h = h.size

-- a wire: what arrives says what its items say
abbrev pub ReadsAll : Stream → Chain → List Item → List Flight → Type 0
ReadsAll f c [] [] = Unit {0}
ReadsAll f c [] (y ∷ ys) = ⊥
ReadsAll f c (x ∷ l) [] = ⊥
ReadsAll f c (x ∷ l) (y ∷ ys) = Reads f c.got x.flit x.ok y × ReadsAll f (after c x) l ys

pub reads_append : (f : Stream) (c : Chain) (l m : List Item) (xs ys : List Flight) → ReadsAll f c l xs → ReadsAll f (final c l) m ys
    → ReadsAll f c (l ++ m) (xs ++ ys)
reads_append f c [] m [] ys h k = k
reads_append f c [] m (x ∷ xs) ys h k = absurd h
reads_append f c (i ∷ l) m [] ys h k = absurd h
reads_append f c (i ∷ l) m (x ∷ xs) ys h k = (h.0, reads_append f (after c i) l m xs ys h.1 k)

-- ---- the receiver's half

abbrev pub mode_of : Mode → KeptMode
mode_of run = Run
mode_of wait = Wait
mode_of down = Down

-- the bytes of a unit
abbrev pub bytes_of : Block → List ℕ
bytes_of u = joined u.parts ++ u.body

abbrev pub units : List Block → List (List ℕ)
units [] = []
units (u ∷ us) = bytes_of u ∷ units us

pub units_append : (us vs : List Block) → units (us ++ vs) ≡ units us ++ units vs
units_append [] vs = refl
units_append (u ∷ us) vs = ap (λ (l : List (List ℕ)). bytes_of u ∷ l) (units_append us vs)

-- at so many discards replay becomes pending
abbrev pub patience : ℕ
patience = 64

-- r is what the state q, with its hold and what it has handed on, stands for
pub record Kept (g : Stream) (r : Receiver) (q : End) (hold : List ℕ) (handed : List (List ℕ)) : Type 0 where
  pub mode : q.mode ≡ mode_of r.mode
  pub wanted : q.wanted.0 ≡ wrap (num g r.wanted)
  pub position : q.position.0 ≡ wrap (num g r.position)
  pub owes : q.owed.0 ≡ r.owes
  pub stalled : q.stalled ≡ r.stalled
  pub gathered : q.gathered.0 ≡ length r.hold
  pub untold : q.untold.0 ≡ r.untold
  pub discards : q.discards < patience
  pub held : take (length r.hold * 64) hold ≡ joined r.hold
  pub size : length hold ≡ 576
  pub out : handed ≡ units r.out
