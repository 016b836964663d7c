-- Accept on bytes: what it takes is a unit, and the places after the held flits then hold it.
use mathlib.Core.Path.{◌≡◌, refl, ap, ap₂, sym, ◌∙◌}
use mathlib.Core.Bool.{true}
use mathlib.Core.List.{List, [], ◌∷◌, ◌++◌}
use Prim.Native.Nat.{ℕ, zero, suc, ◌+◌, ◌-◌, ◌*◌, ◌/◌, ◌≤◌, ◌<◌}
use native.Mathlib.Omega.{arith}
use native.Mathlib.Decide.{dec_lt}
use lib.ListN.{length, drop, length-drop, take-append-drop, get_or-append}
use lib.Seq.{get_or-append-add}
use Rattle.crc.specs.Unit.{AllBytes}
use Rattle.flit_read.specs.Bytes.{read}
use Rattle.flit_read.specs.Fields.{content, run_length, acceptable}
use Rattle.flit_read.proofs.Laws.{take_bytes, drop_bytes}
use Rattle.end_state.specs.Update.{with_held}
use Rattle.end_state.specs.Ring.{flit_at, ring_place}
use Rattle.end_state.specs.Refusals.{last_run}
use Rattle.end_state.specs.declared.End.{End as KeptEnd}
use Rattle.end_state.proofs.Places.{same_place}
use Rattle.accept_verdict.specs.Admission.{flits_of, control_of}
use Rattle.accept_verdict.proofs.Admitted.{Admission}
use Rattle.accept.specs.Accept.{flits_stored}
use Rattle.accept.proofs.Stored.{written_length, written_other, written_at, last_flit}
use Rattle.proof_model.proofs.Stream.{Block, Stream, owed, num}
use Rattle.proof_model.proofs.End.{Sender}
use Rattle.proof_model.proofs.Step
use Rattle.proof_model.proofs.Step.{Room}
use Rattle.proof_model.proofs.Num.{num_le}
use Rattle.proof_model.proofs.Inv.{Local}
use Rattle.proof_wire.proofs.Pieces.{cut, length_cut, flits_cut, joined_cut, get_or_cut, put_bytes}
use Rattle.proof_wire.proofs.Wrap.{most}
use Rattle.proof_wire.proofs.Stands.{Stands, Taken, flit_of}
use Rattle.proof_wire.proofs.Says.{bytes_of}

-- a unit's bytes as a unit
abbrev pub block_of : List ℕ → Block
block_of unit =
    record {
      parts = cut (length unit / 64 - 1) unit;
      body = control_of unit;
      run = read run_length (content (control_of unit));
    }

-- ---- the unit

module _ (unit : List ℕ) (whole : length unit ≡ flits_of unit * 64) (some : 1 ≤ flits_of unit) where
  before : length unit - 64 ≡ (flits_of unit - 1) * 64
  before = omega arith

  pub block_parts : length (block_of unit).parts ≡ flits_of unit - 1
  block_parts = length_cut (flits_of unit - 1) unit

  pub block_bytes : bytes_of (block_of unit) ≡ unit
  block_bytes =
      ap₂ (λ (l : List ℕ) (n : ℕ). l ++ drop n unit) (joined_cut (flits_of unit - 1) unit (omega arith)) before
      ∙ take-append-drop ((flits_of unit - 1) * 64) unit

  control_size : length (control_of unit) ≡ 64
  control_size = length-drop (length unit - 64) unit ∙ omega arith

  pub block_taken : AllBytes unit → acceptable (control_of unit) ≡ true → Taken (block_of unit)
  block_taken b h =
      record {
        parts = flits_cut (flits_of unit - 1) unit (omega arith);
        parts_bytes = rw (joined_cut (flits_of unit - 1) unit (omega arith)) (take_bytes ((flits_of unit - 1) * 64) unit b);
        body = control_size;
        body_bytes = drop_bytes (length unit - 64) unit b;
        fair = h;
        run = refl;
      }

  pub block_flit : (j : ℕ) → j < flits_of unit → flit_of (block_of unit) j ≡ flit_at unit j
  block_flit j h = go (dec_lt j (flits_of unit - 1))
    where
      len : length (block_of unit).parts ≡ flits_of unit - 1
      len = block_parts

      go : Dec (j < flits_of unit - 1) → flit_of (block_of unit) j ≡ flit_at unit j
      go (yes p) =
          get_or-append (block_of unit).parts (control_of unit ∷ []) [] j (omega (arith, len)) ∙ get_or_cut (flits_of unit - 1) unit j p
      go (no p) =
          let e : j ≡ length (block_of unit).parts + 0 = omega (arith, len) in
          let e' : flits_of unit - 1 ≡ j = omega arith in
          ap (flit_of (block_of unit)) e ∙ get_or-append-add (block_of unit).parts (control_of unit ∷ []) 0 [] ∙ sym (last_flit unit whole some)
          ∙ ap (flit_at unit) e'

-- ---- accept

module _ (f : Stream) (store unit : List ℕ) (s : Sender) (q : KeptEnd) (l : Local most f s) (h : Stands f store s q) (o : Admission q store unit)
    (last : last_run q store ≡ owed f s.accepted) (this : f s.accepted ≡ block_of unit)
  where
    flits_here : flits_of unit ≡ suc (owed f s.accepted)
    flits_here = omega (arith, o.run, o.shape.least, last)

    pub has_room : Room most f s
    has_room =
        record {
          run = ap (λ (u : Block). length u.parts) this ∙ block_parts unit o.shape.whole o.shape.least ∙ o.run ∙ last;
          room = omega (arith, h.held, h.most, o.room, flits_here);
        }

    pub accept_stands : Stands f (flits_stored q.capacity.0 q.first q.held.0 store unit (flits_of unit)) (Step.accept s) (with_held (q.held.0 + flits_of unit) q)
    accept_stands =
        record {
          least = h.least;
          size = written_length q.capacity.0 q.first q.held.0 store unit (flits_of unit) h.size h.first o.room o.shape.whole (flits_of unit) (omega arith) ∙ h.size;
          most = h.most;
          room = o.room;
          base = h.base;
          acked = h.acked;
          cursor = h.cursor;
          sent = h.sent;
          held = omega (arith, h.held, flits_here);
          kept = h.kept;
          pending = h.pending;
          first = h.first;
          ring = λ i j a b c. ring i j a b c (dec_lt i s.accepted);
        }
      where
        ring : (i j : ℕ) → s.oldest ≤ i → i < suc s.accepted → j ≤ owed f i → Dec (i < s.accepted)
            → flit_at (flits_stored q.capacity.0 q.first q.held.0 store unit (flits_of unit)) (ring_place q.capacity.0 q.first (num f i + j - num f s.oldest))
            ≡ flit_of (f i) j
        ring i j a b c (yes d) =
            let u : num f (suc i) ≤ num f s.accepted = num_le f (suc i) s.accepted d in
            let v : num f s.oldest ≤ num f i = num_le f s.oldest i a in
            let n = num f i + j - num f s.oldest in
            let near : n < q.held.0 = omega (arith, h.held) in
            written_other q.capacity.0 q.first q.held.0 store unit (flits_of unit) h.size h.first o.room o.shape.whole (flits_of unit)
            (ring_place q.capacity.0 q.first n) (omega arith)
            (λ k lt e. omega (arith, same_place q.capacity.0 q.first n (q.held.0 + k) h.first (omega (arith, o.room)) (omega (arith, o.room)) e))
            ∙ h.ring i j a d c
        ring i j a b c (no d) =
            let e : i ≡ s.accepted = omega arith in
            let c' : j ≤ owed f s.accepted = rw e at c in
            let z : num f s.accepted + j - num f s.oldest ≡ q.held.0 + j = omega (arith, h.held) in
            rw (e, z)
            (written_at q.capacity.0 q.first q.held.0 store unit (flits_of unit) h.size h.first o.room o.shape.whole (flits_of unit) j (omega arith) (omega (arith, flits_here))
            ∙ sym (block_flit unit o.shape.whole o.shape.least j (omega (arith, flits_here)))
            ∙ ap (λ (u : Block). flit_of u j) (sym this))

-- a unit's bytes in a store of bytes leave one
pub then_bytes : (places first held : ℕ) (store unit : List ℕ) (n : ℕ) → AllBytes store → AllBytes unit
    → AllBytes (flits_stored places first held store unit n)
unfolding flits_stored flit_at
then_bytes places first held store unit zero b c = b
then_bytes places first held store unit (suc n) b c =
    put_bytes (flits_stored places first held store unit n) (ring_place places first (held + n)) (flit_at unit n)
    (then_bytes places first held store unit n b c) (take_bytes 64 (drop (n * 64) unit) (drop_bytes (n * 64) unit c))
