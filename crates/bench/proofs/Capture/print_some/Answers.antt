-- `bench::Capture::print_some` meets its contract: what is read fits the input, its lines fit the output, and at most 1,024 flits came.
use Rattle.std.proofs.Common.{◌+◌, ◌≤◌, length, take, arith}
use lib.ListN.{length-take}
use Rattle.bench_capture.proofs.Laws.{session_counted, session_short}
use Rattle.bench.proofs.Capture.print_some.Goals as goal

pub write_out-requires : goal.write_out-requires
write_out-requires g c =
    let s = c.args.self.now in
    let p = c.print_flits-self in
    let part = take (s.rest + c.in_ok-more.more) c.read_after.new.input in
    let bytes : length part ≤ 65536 = rw length-take (omega (arith, c.in_ok-more.ensures, c.read_after.auto.input)) in
    let short = session_short s.store s.kept s.hold part _ _ p.ensures.appends in
    omega (arith, short, bytes, p.ensures.appends.puts.size)

pub returns : goal.returns
returns g c =
    let s = c.args.self.now in
    let p = c.print_flits-self in
    let part = take (s.rest + c.in_ok-more.more) c.read_after.new.input in
    let bytes : length part ≤ 65536 = rw length-take (omega (arith, c.in_ok-more.ensures, c.read_after.auto.input)) in
    let counted = session_counted s.store s.kept s.hold part p.result p.ensures.kept_value in
    (omega arith, omega (arith, counted, bytes))
