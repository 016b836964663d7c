-- `text::Writer::put_form` meets its contract: the first bytes of the form are written, with the first numbers.
use native.Mathlib.Omega.{arith}
use lib.ListN.{drop_of_length-le}
use Rattle.text.proofs.Laws.{room_decimal, room_after, filling_none, filling_number, filling_byte, filling_rest, filling_all}
use Rattle.text.proofs.Writer.put_form.Goals as goal
use Rattle.text.proofs.Writer.put_form.Goals.{in-Some, in_default, in_default-via-in-Some+else-byte-eq-HASH, in_default-via-in_default}

pub loop-byte-init : goal.loop-byte-init
loop-byte-init c = (omega arith, filling_none c.args.self.now c.args.form.now c.args.numbers.now)

pub put_decimal-requires : goal.put_decimal-requires
put_decimal-requires c = room_decimal _ _ _ (omega (arith, c.in-Some.ensures.cases.1))

pub loop-byte-preserved : goal.loop-byte-preserved
loop-byte-preserved c =
    let l = c.loop-byte in
    elim c.match-split_first.branch [
      | in-Some w ↦
          let p = w.put_decimal.ensures in
          rw (w.self-is, w.left-is) (room_after _ p _ (omega (arith, w.in-Some.ensures.cases.1)), filling_number _ _ l.invariant.1 c.loop-byte-test.true w.if-byte-eq-HASH.true w.in-Some.ensures.cases.0 p)
      | in_default w ↦
          let p = w.put_byte.ensures in
          rw (w.self-is, w.left-is) (
            omega (arith, p.puts),
            elim w.in_default.branch [
              | in_default-via-in-Some+else-byte-eq-HASH v ↦ filling_byte _ _ l.invariant.1 c.loop-byte-test.true v.if-byte-eq-HASH.false p
              | in_default-via-in_default v ↦ filling_rest _ _ l.invariant.1 c.loop-byte-test.true v.in_default.ensures.cases p
            ],
          )
    ]

pub returns : goal.returns
returns c = filling_all c.loop-byte.invariant.1 (drop_of_length-le _ c.loop-byte-test.false)
