-- `drive_script::commands::one_argument` meets its contract, word by word.
use Rattle.std.proofs.Common.{ap, sym, ◌∙◌, ℕ, Some, length}
use Rattle.std.proofs.lemmas.Option.{cond_some}
use Rattle.drive_token.specs.Tokens.{is_bytes, pairs}
use Rattle.drive_token.proofs.Cuts.{cond_none}
use Rattle.drive_token.proofs.Figures.{over_none}
use Rattle.drive_script.specs.declared.Command.TheVariants as command
use Rattle.drive_script.specs.Script.{accept_command, receive_command, command_of}
use Rattle.drive_script.proofs.Lines.{start_none, none_carried, accept_some, receive_some}
use Rattle.drive_script.proofs.commands.one_argument.Goals as goal

pub returns-then-is-clause-bytes_after : goal.returns-then-is-clause-bytes_after
unfolding command_of
returns-then-is-clause-bytes_after c = simp (sym c.is.ensures ∙ c.if-is.true, start_none, over_none)

pub returns-in_err-n-clause-value : goal.returns-in_err-n-clause-value
unfolding command_of accept_command
returns-in_err-n-clause-value c = let t = c.args.a.now in
    let k = cond_none (is_bytes t) (length (pairs t)) (sym c.take_hex.ensures.count ∙ c.in_err-n.was) in
    simp (sym c.is.ensures ∙ c.if-is.false, sym c.is-else-is.ensures ∙ c.if-is-2.true, k) c.from_residual.ensures

pub returns-in_err-n-clause-bytes_after : goal.returns-in_err-n-clause-bytes_after
unfolding command_of
returns-in_err-n-clause-bytes_after c =
    simp (sym c.is.ensures ∙ c.if-is.false, sym c.is-else-is.ensures ∙ c.if-is-2.true, accept_some) c.take_hex.ensures.bytes_after

pub returns-in_ok-n-clause-value : goal.returns-in_ok-n-clause-value
unfolding command_of accept_command
returns-in_ok-n-clause-value c = let t = c.args.a.now in
    let k = cond_some (is_bytes t) (length (pairs t)) c.in_ok-n.n (sym c.take_hex.ensures.count ∙ c.in_ok-n.was) in
    simp (sym c.is.ensures ∙ c.if-is.false, sym c.is-else-is.ensures ∙ c.if-is-2.true, k.0) (ap (λ (n : ℕ). Some (command.Accept n)) (sym k.1))

pub returns-in_ok-n-clause-bytes_after : goal.returns-in_ok-n-clause-bytes_after
unfolding command_of
returns-in_ok-n-clause-bytes_after c =
    simp (sym c.is.ensures ∙ c.if-is.false, sym c.is-else-is.ensures ∙ c.if-is-2.true, accept_some) c.take_hex.ensures.bytes_after

pub returns-in_err-n-2-clause-value : goal.returns-in_err-n-2-clause-value
unfolding command_of receive_command
returns-in_err-n-2-clause-value c = let t = c.args.a.now in
    let k = cond_none (is_bytes t) (length (pairs t)) (sym c.take_hex-then-is-3.ensures.count ∙ c.in_err-n-2.was) in
    simp (sym c.is.ensures ∙ c.if-is.false, sym c.is-else-is.ensures ∙ c.if-is-2.false, sym c.is-else-is-2.ensures ∙ c.if-is-3.true, k)
    c.from_residual-in_err-n-2.ensures

pub returns-in_err-n-2-clause-bytes_after : goal.returns-in_err-n-2-clause-bytes_after
unfolding command_of
returns-in_err-n-2-clause-bytes_after c =
    simp (sym c.is.ensures ∙ c.if-is.false, sym c.is-else-is.ensures ∙ c.if-is-2.false, sym c.is-else-is-2.ensures ∙ c.if-is-3.true, receive_some)
    c.take_hex-then-is-3.ensures.bytes_after

pub returns-in_ok-n-2-clause-value : goal.returns-in_ok-n-2-clause-value
unfolding command_of receive_command
returns-in_ok-n-2-clause-value c = let t = c.args.a.now in
    let k = cond_some (is_bytes t) (length (pairs t)) c.in_ok-n-2.n (sym c.take_hex-then-is-3.ensures.count ∙ c.in_ok-n-2.was) in
    simp (sym c.is.ensures ∙ c.if-is.false, sym c.is-else-is.ensures ∙ c.if-is-2.false, sym c.is-else-is-2.ensures ∙ c.if-is-3.true, k.0)
    (ap (λ (n : ℕ). Some (command.Receive n)) (sym k.1))

pub returns-in_ok-n-2-clause-bytes_after : goal.returns-in_ok-n-2-clause-bytes_after
unfolding command_of
returns-in_ok-n-2-clause-bytes_after c =
    simp (sym c.is.ensures ∙ c.if-is.false, sym c.is-else-is.ensures ∙ c.if-is-2.false, sym c.is-else-is-2.ensures ∙ c.if-is-3.true, receive_some)
    c.take_hex-then-is-3.ensures.bytes_after

pub returns-else-is-3-clause-bytes_after : goal.returns-else-is-3-clause-bytes_after
unfolding command_of
returns-else-is-3-clause-bytes_after c =
    simp (sym c.is.ensures ∙ c.if-is.false, sym c.is-else-is.ensures ∙ c.if-is-2.false, sym c.is-else-is-2.ensures ∙ c.if-is-3.false, none_carried, over_none)
