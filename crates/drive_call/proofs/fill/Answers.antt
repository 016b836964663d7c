-- `drive_call::fill` meets its contract.
use Rattle.std.proofs.Common.{arith, sym, ◌∙◌}
use Rattle.std.proofs.lemmas.Bool.{eqb-true, eqb-false}
use lib.ListN.{length, take}
use lib.Seq.{length-take-le}
use Prim.Native.Nat.{◌+◌, ◌-◌}
use borrow.Rule.Slice.PartMut.{put_mid}
use Rattle.text.proofs.Laws.{written_copied}
use Rattle.drive_call.proofs.Lent.{fill_none, fill_not, fill_does}
use Rattle.drive_call.proofs.fill.Goals as goal

pub returns-then-is_empty : goal.returns-then-is_empty
returns-then-is_empty c =
    let a = c.args in
    let f = fill_none c.requires.0 c.requires.1 a.offset a.bytes.now (eqb-true _ 0 (sym c.is_empty.ensures ∙ c.if-is_empty.true)) in
    record { value = f.value; store_after = f.left }

pub returns-in_default : goal.returns-in_default
returns-in_default c =
    let a = c.args in
    let f =
    fill_not c.requires.0 c.requires.1 a.offset a.bytes.now (eqb-false _ 0 (sym c.is_empty.ensures ∙ c.if-is_empty.false))
    (omega (arith, c.in_default.ensures)) in
    record { value = f.value; store_after = f.left }

pub returns-then-last-offset : goal.returns-then-last-offset
returns-then-last-offset c =
    let a = c.args in
    let f =
    fill_not c.requires.0 c.requires.1 a.offset a.bytes.now (eqb-false _ 0 (sym c.is_empty.ensures ∙ c.if-is_empty.false))
    (omega (arith, c.in-Some.ensures)) in
    record { value = f.value; store_after = f.left }

pub returns : goal.returns
returns c =
    let a = c.args in
    let bytes = a.bytes.now in
    let kept = take a.kept a.store.now in
    let size = length-take-le a.kept a.store.now c.requires.0 in
    let f =
    fill_does c.requires.0 c.requires.1 a.offset bytes
    {after = put_mid a.offset (a.offset + length bytes - a.offset) kept c.copy_from_slice.new.self}
    (eqb-false _ 0 (sym c.is_empty.ensures ∙ c.if-is_empty.false)) (omega (arith, c.in-Some.ensures))
    (rw c.copy_from_slice.ensures.after (written_copied kept bytes a.offset _ (omega arith) (omega (arith, c.in-Some.ensures, size)))) in
    record { value = f.value; store_after = f.left }
