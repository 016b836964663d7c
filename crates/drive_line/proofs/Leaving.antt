-- What a command leaves, and its line, from what its functions say.
use mathlib.Core.Bool.{true, false}
use mathlib.Core.List.{List}
use mathlib.Core.Path.{◌≡◌, refl, ap, ap₂, sym, subst, ◌∙◌}
use Prim.Native.Nat.{ℕ, ◌≤◌}
use lib.ListN.{length, take}
use Rattle.text.specs.Text.{Appends, key_value}
use Rattle.text.specs.declared.Writer.{Writer}
use Rattle.std.proofs.lemmas.Bool.{cond-true, cond-false}
use Rattle.drive_script.specs.Script.{bytes_in}
use Rattle.drive_script.specs.declared.Command.{Command}
use Rattle.drive_set.specs.Settings.{side_lent}
use Rattle.drive_side.specs.declared.Side.{Side}
use Rattle.drive_call.specs.Sides.{Kept, Buffered, fills}
use Rattle.drive_line.specs.Lines.{Did, stated, bad, bad_line, fill_line, commanded}

-- what a command leaves, and its line, put
pub record Left (d : Did) (k : Kept) (before after : Writer) : Type 0 where
  pub kept_after : k ≡ d.kept
  pub appends : Appends before d.line after

module _ {k : Kept} {before after : Writer} where
  pub left_as : {d d' : Did} → d ≡ d' → Left d k before after → Left d' k before after
  left_as e l = subst (λ (d : Did). Left d k before after) e l

  -- a line of a head and STATE
  pub left_stated : {head head' : List ℕ} {k' : Kept} → head ≡ head' → k ≡ k' → Appends before (stated head k).line after
      → Left (stated head' k') k before after
  unfolding stated
  left_stated e f p = left_as (ap₂ stated e f) (record { kept_after = refl; appends = p })

  -- the command is known
  pub left_did : (k' : Kept) (buffer : List ℕ) {c c' : Command} {d : Did} → c ≡ c' → d ≡ commanded k' c' (take (bytes_in c') buffer)
      → Left d k before after → Left (commanded k' c (take (bytes_in c) buffer)) k before after
  left_did k' buffer e f l = left_as (f ∙ ap (λ (x : Command). commanded k' x (take (bytes_in x) buffer)) (sym e)) l

-- other lengths are lent
pub buffered_lent : {s s' : Side} {n m : ℕ} {store hold : List ℕ} → s' ≡ side_lent s n m → n ≤ length store → m ≤ length hold → Buffered s store hold → Buffered s' store hold
unfolding side_lent
buffered_lent {s} {s'} {n} {m} {store} {hold} same h k b =
    subst (λ (x : Side). Buffered x store hold) (sym same)
    (record {
      kept = b.kept;
      store_lent = h;
      hold_kept = b.hold_kept;
      hold_lent = k;
      store_clean = b.store_clean;
      hold_clean = b.hold_clean;
    })

-- ---- fill

module _ (k : Kept) (offset : ℕ) (bytes : List ℕ) {k' : Kept} {before after : Writer} where
  pub left_filled : (fills k offset bytes).answer ≡ true → Left (stated (key_value "fill refuse=" 0) (fills k offset bytes).kept) k' before after
      → Left (fill_line k offset bytes) k' before after
  unfolding fill_line
  left_filled t l = left_as (sym (cond-true (fills k offset bytes).answer _ _ t)) l

  pub left_unfilled : (fills k offset bytes).answer ≡ false → k' ≡ (fills k offset bytes).kept → Appends before bad_line after
      → Left (fill_line k offset bytes) k' before after
  unfolding fill_line fills bad
  left_unfilled t e p =
      left_as (sym (cond-false (fills k offset bytes).answer _ _ t))
      (record {
        kept_after = e ∙ ap (λ (x : List ℕ). record { side = k.side; store = x; hold = k.hold }) (cond-false (fills k offset bytes).answer _ _ t);
        appends = p;
      })
