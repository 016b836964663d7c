use mathlib.Core.Path.{sym, ◌∙◌}
use Rattle.end_state.specs.State.{start}
use Rattle.end_state.proofs.End.start.Goals as goal

pub returns-then-is_store : goal.returns-then-is_store
unfolding start
returns-then-is_store c = simp (sym c.is_store.ensures ∙ c.if-is_store.true, c.fresh.ensures)

pub returns-else-is_store : goal.returns-else-is_store
unfolding start
returns-else-is_store c = simp (sym c.is_store.ensures ∙ c.if-is_store.false, c.fresh-else-is_store.ensures)
