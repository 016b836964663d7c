-- How a receiver looks at the next flit, and the tests of 01, Receive 1 to 3, where two honest ends stand.
use mathlib.Core.Path.{◌≡◌, refl, ap, ◌∙◌}
use mathlib.Core.Bool.{true, false, ◌&&◌, ◌||◌, cond}
use mathlib.Core.List.{List, ◌++◌}
use Prim.Native.Nat.{ℕ, zero, suc, ◌+◌, ◌*◌, ◌≤◌, ◌<◌}
use native.Mathlib.Omega.{arith}
use borrow.Author.Tests.{lt-ltb, le-ltb, lt-leb, eq-eqb, ne_eqb}
use lib.Dec.{leb, eqb}
use lib.ListN.{take}
use Rattle.std.proofs.Math.Bool.{and-false}
use Rattle.flit_read.specs.Fields.{replay_kind, idle_kind}
use Rattle.flit_read.specs.declared.Fields.{Fields}
use Rattle.end_state.specs.declared.End.{End}
use Rattle.receive_test.specs.Arrivals.{holds, closes, run_wrong, stall_wrong, straddles, damaged, skips, behind}
use Rattle.proof_model.proofs.Stream.{some}

module _ (q : End) where
  pub holds_yes : q.stalled ≡ false → q.gathered.0 < q.owed.0 → holds q ≡ true
  unfolding holds
  holds_yes b h = simp (b, lt-ltb q.gathered.0 q.owed.0 h)

  pub holds_full : q.gathered.0 ≡ q.owed.0 → holds q ≡ false
  unfolding holds
  holds_full h = simp (le-ltb q.gathered.0 q.owed.0 (omega arith), and-false)

  -- between units: nothing is held, and stalled says whether data is owed
  pub holds_rest : q.gathered.0 ≡ 0 → q.stalled ≡ some q.owed.0 → holds q ≡ false
  unfolding holds
  holds_rest h b = go q.owed.0 refl
    where
      go : (n : ℕ) → q.owed.0 ≡ n → holds q ≡ false
      go zero z = simp (h, z, and-false)
      go (suc n) z = simp (b, z)

  pub closes_rest : q.stalled ≡ some q.owed.0 → closes q ≡ false
  unfolding closes
  closes_rest b = go q.owed.0 refl
    where
      go : (n : ℕ) → q.owed.0 ≡ n → closes q ≡ false
      go zero z = simp (z, and-false)
      go (suc n) z = simp (b, z)

  -- a closing flit is checked with its data
  pub checked_full : (hold data' flit : List ℕ) → q.stalled ≡ false → q.gathered.0 ≡ q.owed.0 → take (q.gathered.0 * 64) hold ≡ data'
      → cond (closes q) (take (q.gathered.0 * 64) hold ++ flit) flit ≡ data' ++ flit
  unfolding closes
  checked_full hold data' flit b h e = go q.owed.0 refl
    where
      go : (n : ℕ) → q.owed.0 ≡ n → cond (closes q) (take (q.gathered.0 * 64) hold ++ flit) flit ≡ data' ++ flit
      go zero z = simp (b, ← e, h, z)
      go (suc n) z = simp (b, lt-ltb 0 q.owed.0 (omega arith), eq-eqb q.gathered.0 q.owed.0 h, e)

  module _ (x : Fields) where
    pub damaged_control : q.stalled ≡ false → x.run.0 ≤ 8 → straddles q x ≡ false → damaged q x true ≡ false
    unfolding damaged run_wrong stall_wrong
    damaged_control b le sd = simp (b, sd, le-ltb 8 x.run.0 le, ne_eqb x.run.0 idle_kind (λ z. omega arith), and-false)

    -- a flit that is looked at alone and is no control flit
    alone_length : 9 ≤ x.run.0 → closes q ≡ false → run_wrong q x ≡ false
    unfolding run_wrong
    alone_length le c = simp (c, le-ltb x.run.0 9 le, and-false)

    alone_straddles : 9 ≤ x.run.0 → straddles q x ≡ false
    unfolding straddles
    alone_straddles le = simp (lt-leb x.run.0 8 (omega arith))

    pub damaged_idle : x.run.0 ≡ idle_kind → x.stall.0 ≡ q.owed.0 → closes q ≡ false → damaged q x true ≡ false
    unfolding damaged stall_wrong
    damaged_idle ru ow c =
        simp (alone_length (omega arith) c, alone_straddles (omega arith), eq-eqb x.stall.0 q.owed.0 ow, and-false)

    pub damaged_replay : x.run.0 ≡ replay_kind → closes q ≡ false → damaged q x true ≡ false
    unfolding damaged stall_wrong
    damaged_replay ru c =
        simp (alone_length (omega arith) c, alone_straddles (omega arith), ne_eqb x.run.0 idle_kind (λ z. omega arith))

    -- a unit that begins at wanted, or ends before it
    pub straddles_none : behind q q.position.0 ≡ 0 → straddles q x ≡ false
    unfolding straddles
    straddles_none h = simp (h, and-false)

    pub straddles_before : q.gathered.0 + 1 ≤ behind q q.position.0 → straddles q x ≡ false
    unfolding straddles
    straddles_before h = simp (le-ltb (behind q q.position.0) (q.gathered.0 + 1) h, and-false)

    pub skips_control : x.run.0 ≤ 8 → skips x ≡ false
    unfolding skips
    skips_control le = simp (ne_eqb x.run.0 9 (λ z. omega arith), lt-leb 11 x.run.0 (omega arith))

    pub skips_known : (n : ℕ) → x.run.0 ≡ n → (eqb n 9 || (leb 11 n && leb n 14)) ≡ false → skips x ≡ false
    unfolding skips
    skips_known n e h = ap (λ (m : ℕ). eqb m 9 || (leb 11 m && leb m 14)) e ∙ h
