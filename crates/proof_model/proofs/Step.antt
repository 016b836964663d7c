-- What an end of the abstract link may do: accept, send, receive. These are relations, and what the environment chooses is an argument: how a
-- flit arrives, how much is told, when a waiting end asks again. So they allow all that the end on bytes does, and a little more.
use mathlib.Core.Path.{◌≡◌}
use mathlib.Core.Bool.{Bool, true, false}
use mathlib.Core.Logic.{◌≢◌}
use mathlib.Core.List.{List, [], ◌∷◌, ◌++◌}
use Prim.Native.Nat.{ℕ, suc, ◌+◌, ◌-◌, ◌≤◌, ◌<◌, max}
use lib.ListN.{length}
use Rattle.proof_model.proofs.Stream.{Bytes, Stream, owed, num, some, Flit, Item, part, control, idle, replay}
use Rattle.proof_model.proofs.End.{Mode, run, wait, down, Sender, Receiver, End}

abbrev pub item : Flit → Bool → ℕ → ℕ → Item
item x ok lo hi = record { flit = x; ok = ok; lo = lo; hi = hi }

-- ---- accept: the next unit of the stream

abbrev pub accept : Sender → Sender
accept s =
    record { accepted = suc s.accepted; oldest = s.oldest; cursor = s.cursor; sent = s.sent; acked = s.acked; pending = s.pending }

pub record Room (C : ℕ) (f : Stream) (s : Sender) : Type 0 where
  pub run : length (f s.accepted).parts ≡ owed f s.accepted
  pub room : num f (suc s.accepted) ≤ num f s.oldest + C

-- ---- send: the sender after it, what is told, what goes on the wire

abbrev pub is_waiting : Mode → Bool
is_waiting run = false
is_waiting wait = true
is_waiting down = false

abbrev pub tell : ℕ → Receiver → Receiver
tell k r =
    record {
      mode = r.mode;
      wanted = r.wanted;
      position = r.position;
      owes = r.owes;
      stalled = r.stalled;
      hold = r.hold;
      untold = r.untold - k;
      out = r.out;
    }

abbrev pub told : Sender → Sender
told s =
    record { accepted = s.accepted; oldest = s.oldest; cursor = s.cursor; sent = s.sent; acked = s.acked; pending = false }

abbrev pub moved : Sender → Sender
moved s =
    record {
      accepted = s.accepted;
      oldest = s.oldest;
      cursor = suc s.cursor;
      sent = max s.sent (suc s.cursor);
      acked = s.acked;
      pending = s.pending;
    }

-- the data flits as they will arrive
abbrev pub carried : ℕ → ℕ → Bool → List Bytes → List Item → List Item
carried lo hi ok [] l = l
carried lo hi ok (x ∷ xs) l = item (part x) ok lo hi ∷ carried lo hi ok xs l

-- Ok holds of what the environment may choose: altered or not. f is the own stream, g the other's.
pub data Send (Ok : Bool → Type 0) (f g : Stream) (e : End) : List Item → End → Type 0 where
  replays : {a b : Bool} → Ok a → Ok b → e.r.mode ≢ down → e.s.pending ≡ true
      → Send Ok f g e
      (item (replay (is_waiting e.r.mode) e.s.cursor (owed f e.s.cursor) (some (owed f e.s.cursor)) (num g e.r.wanted)) a
      e.s.oldest e.s.sent
      ∷ item (replay (is_waiting e.r.mode) e.s.cursor (owed f e.s.cursor) (some (owed f e.s.cursor)) (num g e.r.wanted)) b
      e.s.oldest e.s.sent
      ∷ [])
      (record { s = told e.s; r = tell e.r.untold e.r })
  alone : {k : ℕ} {a : Bool} → Ok a → e.r.mode ≢ down → e.s.pending ≡ false → e.s.cursor < e.s.accepted
      → owed f e.s.cursor ≡ 0 → k ≤ e.r.untold
      → Send Ok f g e
      (item (control (f e.s.cursor).body (f e.s.cursor).run k (some (f e.s.cursor).run)) a e.s.oldest
      (max e.s.sent (suc e.s.cursor))
      ∷ [])
      (record { s = moved e.s; r = tell k e.r })
  burst : (k j : ℕ) {a : Bool} (b : Bool) (xs : List Bytes) → Ok a → Ok b → e.r.mode ≢ down → e.s.pending ≡ false → e.s.cursor < e.s.accepted
      → 0 < owed f e.s.cursor → k + j ≤ e.r.untold → length xs ≡ owed f e.s.cursor
      → (b ≡ true → xs ≡ (f e.s.cursor).parts)
      → Send Ok f g e
      (item (idle k false (owed f e.s.cursor)) a e.s.oldest e.s.sent
      ∷ carried e.s.oldest (max e.s.sent (suc e.s.cursor)) b xs
      (item (control (f e.s.cursor).body (f e.s.cursor).run j (some (f e.s.cursor).run)) b e.s.oldest
      (max e.s.sent (suc e.s.cursor))
      ∷ []))
      (record { s = moved e.s; r = tell (k + j) e.r })
  idles : {k : ℕ} {a : Bool} → Ok a → e.r.mode ≢ down → e.s.pending ≡ false → k ≤ e.r.untold
      → Send Ok f g e
      (item (idle k (some (owed f e.s.cursor)) (owed f e.s.cursor)) a e.s.oldest e.s.sent ∷ [])
      (record { s = e.s; r = tell k e.r })

-- ---- receive

-- an acknowledgement of all flits below a; the oldest unit left is o; g is the own stream
abbrev pub freed : ℕ → ℕ → Sender → Sender
freed a o s =
    record { accepted = s.accepted; oldest = o; cursor = s.cursor; sent = s.sent; acked = a; pending = s.pending }

abbrev pub passed : ℕ → ℕ → Sender → Sender
passed a o s = record { accepted = s.accepted; oldest = o; cursor = o; sent = s.sent; acked = a; pending = true }

abbrev pub again : Sender → Sender
again s =
    record { accepted = s.accepted; oldest = s.oldest; cursor = s.cursor; sent = s.sent; acked = s.acked; pending = true }

abbrev pub nacked : Bool → Sender → Sender
nacked false s = s
nacked true s =
    record { accepted = s.accepted; oldest = s.oldest; cursor = s.oldest; sent = s.sent; acked = s.acked; pending = true }

pub data Acked (g : Stream) (s : Sender) (a : ℕ) : Sender → Type 0 where
  keeps : (o : ℕ) → s.acked ≤ a → a ≤ num g s.sent → s.oldest ≤ o → num g o ≤ a → a < num g (suc o) → o ≤ s.cursor
      → Acked g s a (freed a o s)
  passes : (o : ℕ) → s.acked ≤ a → a ≤ num g s.sent → s.oldest ≤ o → num g o ≤ a → a < num g (suc o) → s.cursor < o
      → Acked g s a (passed a o s)

abbrev pub holding : Bytes → Receiver → Receiver
holding x r =
    record {
      mode = r.mode;
      wanted = r.wanted;
      position = r.position;
      owes = r.owes;
      stalled = r.stalled;
      hold = r.hold ++ (x ∷ []);
      untold = r.untold;
      out = r.out;
    }

abbrev pub waiting : Receiver → Receiver
waiting r =
    record {
      mode = wait;
      wanted = r.wanted;
      position = r.position;
      owes = r.owes;
      stalled = r.stalled;
      hold = [];
      untold = r.untold;
      out = r.out;
    }

abbrev pub delivered : Bytes → ℕ → Bool → Receiver → Receiver
delivered body n st r =
    record {
      mode = r.mode;
      wanted = suc r.wanted;
      position = suc r.position;
      owes = n;
      stalled = st;
      hold = [];
      untold = r.untold + suc (length r.hold);
      out = r.out ++ (record { parts = r.hold; body = body; run = n } ∷ []);
    }

abbrev pub duplicate : ℕ → Bool → Receiver → Receiver
duplicate n st r =
    record {
      mode = r.mode;
      wanted = r.wanted;
      position = suc r.position;
      owes = n;
      stalled = st;
      hold = [];
      untold = r.untold;
      out = r.out;
    }

abbrev pub idled : Bool → Receiver → Receiver
idled st r =
    record {
      mode = r.mode;
      wanted = r.wanted;
      position = r.position;
      owes = r.owes;
      stalled = st;
      hold = r.hold;
      untold = r.untold;
      out = r.out;
    }

abbrev pub placed : Mode → ℕ → ℕ → Bool → Receiver → Receiver
placed m p n st r =
    record { mode = m; wanted = r.wanted; position = p; owes = n; stalled = st; hold = []; untold = r.untold; out = r.out }

abbrev pub fallen : Receiver → Receiver
fallen r =
    record {
      mode = down;
      wanted = r.wanted;
      position = r.position;
      owes = r.owes;
      stalled = r.stalled;
      hold = r.hold;
      untold = r.untold;
      out = r.out;
    }

-- one more flit discarded: each end decides how many make replay pending
pub data Discard (s : Sender) : Sender → Type 0 where
  more : Discard s s
  enough : Discard s (again s)

-- how the receiver looks at the next flit
abbrev pub Holds : Receiver → Type 0
Holds r = (r.stalled ≡ false) × (length r.hold < r.owes)

abbrev pub Closes : Receiver → Type 0
Closes r = (r.stalled ≡ false) × (length r.hold ≡ r.owes)

abbrev pub Alone : Receiver → Type 0
Alone r = (r.hold ≡ []) × (r.stalled ≡ some r.owes)

-- what sends an end down, and what the base does not meet: a flit of a kind that is not looked at as one
pub data Wrong (g : Stream) (e : End) : Item → Type 0 where
  no_part : {x : Bytes} {lo hi : ℕ} {ok : Bool} → e.r.mode ≡ run → ¬ Holds e.r → Wrong g e (item (part x) ok lo hi)
  no_control : {b : Bytes} {n k lo hi : ℕ} {st ok : Bool} → e.r.mode ≡ run → ¬ Closes e.r → Wrong g e (item (control b n k st) ok lo hi)
  no_idle : {n k lo hi : ℕ} {st ok : Bool} → e.r.mode ≡ run → ¬ Alone e.r → Wrong g e (item (idle k st n) ok lo hi)
  no_replay : {p n t lo hi : ℕ} {na st ok : Bool} → e.r.mode ≡ run → ¬ Alone e.r → Wrong g e (item (replay na p n st t) ok lo hi)
  other_run : {n k lo hi : ℕ} {st : Bool} → e.r.mode ≡ run → n ≢ e.r.owes → Wrong g e (item (idle k st n) true lo hi)
  past_control : {b : Bytes} {n k lo hi : ℕ} {st : Bool} → e.r.mode ≡ run → num g e.s.sent < e.s.acked + k
      → Wrong g e (item (control b n k st) true lo hi)
  past_idle : {n k lo hi : ℕ} {st : Bool} → e.r.mode ≡ run → num g e.s.sent < e.s.acked + k
      → Wrong g e (item (idle k st n) true lo hi)
  past_replay : {p n t lo hi : ℕ} {na st : Bool} → num g e.s.sent < t → Wrong g e (item (replay na p n st t) true lo hi)
  before_replay : {p n t lo hi : ℕ} {na st : Bool} → t < e.s.acked → Wrong g e (item (replay na p n st t) true lo hi)
  over : {b : Bytes} {n k lo hi : ℕ} {st : Bool} → e.r.mode ≡ run → e.r.position ≡ e.r.wanted → 1024 < e.r.untold + suc (length e.r.hold)
      → Wrong g e (item (control b n k st) true lo hi)

pub data Receive (g : Stream) (e : End) : Item → End → Type 0 where
  holds : {x : Bytes} {lo hi : ℕ} {ok : Bool} → e.r.mode ≡ run → Holds e.r → Receive g e (item (part x) ok lo hi) (record { s = e.s; r = holding x e.r })
  delivers : {b : Bytes} {n k lo hi : ℕ} {st : Bool} {t : Sender} → e.r.mode ≡ run → Closes e.r → e.r.position ≡ e.r.wanted
      → Acked g e.s (e.s.acked + k) t
      → Receive g e (item (control b n k st) true lo hi) (record { s = t; r = delivered b n st e.r })
  repeats : {b : Bytes} {n k lo hi : ℕ} {st : Bool} {t : Sender} → e.r.mode ≡ run → Closes e.r → e.r.position ≢ e.r.wanted
      → Acked g e.s (e.s.acked + k) t
      → Receive g e (item (control b n k st) true lo hi) (record { s = t; r = duplicate n st e.r })
  idling : {n k lo hi : ℕ} {st : Bool} {t : Sender} → e.r.mode ≡ run → Alone e.r → n ≡ e.r.owes
      → Acked g e.s (e.s.acked + k) t
      → Receive g e (item (idle k st n) true lo hi) (record { s = t; r = idled st e.r })
  damaged : {x : Flit} {lo hi : ℕ} → e.r.mode ≡ run → Receive g e (item x false lo hi) (record { s = again e.s; r = waiting e.r })
  replayed : {p n t lo hi : ℕ} {na st : Bool} {u : Sender} → e.r.mode ≢ down → p ≤ e.r.wanted → Acked g e.s t u
      → Receive g e (item (replay na p n st t) true lo hi) (record { s = nacked na u; r = placed run p n st e.r })
  ahead_run : {p n t lo hi : ℕ} {na st : Bool} {u : Sender} → e.r.mode ≡ run → e.r.wanted < p → Acked g e.s t u
      → Receive g e (item (replay na p n st t) true lo hi) (record { s = again (nacked na u); r = placed wait p n st e.r })
  ahead_wait : {p n t lo hi : ℕ} {na st : Bool} {u v : Sender} → e.r.mode ≡ wait → e.r.wanted < p → Acked g e.s t u
      → Discard (nacked na u) v
      → Receive g e (item (replay na p n st t) true lo hi) (record { s = v; r = placed wait p n st e.r })
  discards : {x : Item} {v : Sender} → e.r.mode ≡ wait → Discard e.s v
      → Receive g e x (record { s = v; r = e.r })
  falls : {x : Item} → Wrong g e x → Receive g e x (record { s = e.s; r = fallen e.r })
