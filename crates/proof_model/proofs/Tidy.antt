-- What refusal 2 asks of the receiver's half: owed at most 8, no more data held than owed, and none while stalled. In mode run it follows
-- from what stands next on the wire.
use mathlib.Core.Path.{◌≡◌, refl, sym, subst, ◌∙◌}
use mathlib.Core.Bool.{Bool, true, true≢false}
use mathlib.Core.List.{List, [], ◌∷◌}
use Prim.Native.Nat.{ℕ, suc, ◌≤◌}
use native.Mathlib.Omega.{arith}
use lib.ListN.{length}
use Rattle.proof_model.proofs.Stream.{Stream, owed, some, Flit, Item, part, control, idle, replay}
use Rattle.proof_model.proofs.End.{Mode, run, wait, down, no_wait, Receiver, End}
use Rattle.proof_model.proofs.Step.{Send, replays, alone, burst, idles, Receive, holds, delivers, repeats, idling, damaged, replayed, ahead_run, ahead_wait, discards, falls}
use Rattle.proof_model.proofs.Chain.{Chain, final, Rest, Fit, Wire}
use Rattle.proof_model.proofs.Inv.{At, Runs}
use Rattle.proof_model.proofs.Receive
use Rattle.proof_model.proofs.Receive.{Given}

pub record Tidy (r : Receiver) : Type 0 where
  pub waits : r.mode ≡ wait → r.hold ≡ []
  pub owes : r.owes ≤ 8

pub tidy_send : {Ok : Bool → Type 0} {f g : Stream} {e e' : End} {b : List Item} → Tidy e.r → Send Ok f g e b e' → Tidy e'.r
tidy_send h (replays x y m p) = record { waits = h.waits; owes = h.owes }
tidy_send h (alone x m p room n un) = record { waits = h.waits; owes = h.owes }
tidy_send h (burst k j b xs x y m p room some un len s) = record { waits = h.waits; owes = h.owes }
tidy_send h (idles x m p un) = record { waits = h.waits; owes = h.owes }

pub tidy_receive : (C : ℕ) (small : C ≤ 1024) (f g : Stream) (e e' : End) (d : Chain) (x : Item) → Given C f g e d x → ((i : ℕ) → i ≤ x.hi → owed g i ≤ 8)
    → Tidy e.r → Receive f e x e' → Tidy e'.r
tidy_receive C small f g e e' d x v o h (holds m q) = record { waits = λ z. absurd (no_wait m z); owes = h.owes }
tidy_receive C small f g e e' d x v o h (delivers m q p a) =
    let i = v.fits.fit in
    let b : owed g (suc d.pos) ≤ 8 = o (suc d.pos) i.below in
    record { waits = λ z. refl; owes = omega (arith, i.run) }
tidy_receive C small f g e e' d x v o h (repeats m q p a) =
    let i = v.fits.fit in
    let b : owed g (suc d.pos) ≤ 8 = o (suc d.pos) i.below in
    record { waits = λ z. refl; owes = omega (arith, i.run) }
tidy_receive C small f g e e' d x v o h (idling m q n a) = record { waits = λ z. absurd (no_wait m z); owes = h.owes }
tidy_receive C small f g e e' d x v o h (damaged m) = record { waits = λ z. refl; owes = h.owes }
tidy_receive C small f g e e' d x v o h (replayed {p = p} m q a) =
    let i = v.fits.fit in
    let b : owed g p ≤ 8 = o p i.below in
    record { waits = λ z. refl; owes = omega (arith, i.run) }
tidy_receive C small f g e e' d x v o h (ahead_run {p = p} m q a) =
    let i = v.fits.fit in
    let b : owed g p ≤ 8 = o p i.below in
    record { waits = λ z. refl; owes = omega (arith, i.run) }
tidy_receive C small f g e e' d x v o h (ahead_wait {p = p} m q a k) =
    let i = v.fits.fit in
    let b : owed g p ≤ 8 = o p i.below in
    record { waits = λ z. refl; owes = omega (arith, i.run) }
tidy_receive C small f g e e' d x v o h (discards m k) = record { waits = h.waits; owes = h.owes }
tidy_receive C small f g e e' d x v o h (falls q) = absurd (Receive.no_wrong C small f g e d x v q)

-- in mode run, by what comes next on the wire
pub record Framed (r : Receiver) : Type 0 where
  pub data_le : length r.hold ≤ r.owes
  pub none : r.stalled ≡ true → r.hold ≡ []

at_flit : (C : ℕ) (g : Stream) (d : Chain) (x : Flit) (ok : Bool) (lo hi a : ℕ) (r : Receiver) → Fit g d x ok lo hi → Runs g d a r
    → Framed r
at_flit C g d (part x) ok lo hi a r i u =
    record { data_le = rw (u.hold, u.owes) (omega (arith, i.room)); none = λ z. absurd (true≢false (sym z ∙ u.bit ∙ i.bit)) }
at_flit C g d (control b n k st) ok lo hi a r i u =
    record { data_le = rw (u.hold, u.owes) (omega (arith, i.full)); none = λ z. absurd (true≢false (sym z ∙ u.bit ∙ i.bit)) }
at_flit C g d (idle k st n) ok lo hi a r i u =
    let e : r.hold ≡ [] = u.hold ∙ i.rest.none in
    record { data_le = rw e (omega arith); none = λ z. e }
at_flit C g d (replay na p n st t) ok lo hi a r i u =
    let e : r.hold ≡ [] = u.hold ∙ i.rest.none in
    record { data_le = rw e (omega arith); none = λ z. e }

pub framed : (C : ℕ) (g : Stream) (d : Chain) (m : List Item) (a : ℕ) (r : Receiver) → Wire C g d m
    → Rest g (final d m) → At g d a r r.mode → Tidy r → Framed r
framed C g d m a r w e h t = go r.mode refl
  where
    run_case : (m : List Item) → Wire C g d m → Rest g (final d m) → Runs g d a r → Framed r
    run_case [] w e u = let z : r.hold ≡ [] = u.hold ∙ e.none in record { data_le = rw z (omega arith); none = λ y. z }
    run_case (x ∷ m) w e u = at_flit C g d x.flit x.ok x.lo x.hi a r w.0.fit u

    go : (mo : Mode) → r.mode ≡ mo → Framed r
    go run p = run_case m w e (subst (At g d a r) p h)
    go wait p = let z : r.hold ≡ [] = t.waits p in record { data_le = rw z (omega arith); none = λ y. z }
    go down p = absurd (subst (At g d a r) p h)
