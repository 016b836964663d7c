-- The words of a script: the ends, the fields of the state with their largest values, and the counts of the ticket.
use Rattle.std.specs.Prelude.{cond, List, [], ◌∷◌, ℕ, Option, Some, None}
use Rattle.text.specs.Text.{ascii}
use Rattle.drive_token.specs.Tokens.{same}
use Rattle.drive_name.specs.declared.Which.{Which}
use Rattle.drive_name.specs.declared.Which.TheVariants as which
use Rattle.drive_name.specs.declared.EndField.{EndField}
use Rattle.drive_name.specs.declared.EndField.TheVariants as field
use Rattle.drive_name.specs.declared.Key.{Key}
use Rattle.drive_name.specs.declared.Key.TheVariants as key

-- what stands in a table beside the first word that a token is
abbrev pub beside : {T : Type 0} → List ℕ → List (List ℕ × T) → Option T
beside t [] = None
beside t (p ∷ table) = cond (same t p.0) (Some p.1) (beside t table)

-- E: the two ends
unfoldable pub end_of : List ℕ → Option Which
end_of t = beside t ((ascii "a", which.A) ∷ (ascii "b", which.B) ∷ [])

-- the fields of the state, by the names of the output line
unfoldable pub field_of : List ℕ → Option EndField
field_of t =
    beside t
    ((ascii "capacity", field.Capacity) ∷
    (ascii "first", field.First) ∷
    (ascii "held", field.Held) ∷
    (ascii "kept", field.Kept) ∷
    (ascii "oldest", field.Oldest) ∷
    (ascii "cursor", field.Cursor) ∷
    (ascii "sent", field.Sent) ∷
    (ascii "acked", field.Acked) ∷
    (ascii "wanted", field.Wanted) ∷
    (ascii "position", field.Position) ∷
    (ascii "owed", field.Owed) ∷
    (ascii "stalled", field.Stalled) ∷
    (ascii "data", field.Data) ∷
    (ascii "untold", field.Untold) ∷
    (ascii "mode", field.Mode) ∷
    (ascii "cause", field.Cause) ∷
    (ascii "discards", field.Discards) ∷
    (ascii "pending", field.Pending) ∷
    (ascii "info0", field.Info 0) ∷
    (ascii "info1", field.Info 1) ∷
    (ascii "info2", field.Info 2) ∷
    (ascii "info3", field.Info 3) ∷
    (ascii "info4", field.Info 4) ∷
    (ascii "info5", field.Info 5) ∷
    (ascii "info6", field.Info 6) ∷
    (ascii "info7", field.Info 7) ∷
    [])

-- the largest value of a field
unfoldable pub most : EndField → ℕ
most (field.Info i) = 18446744073709551615
most field.Mode = 2
most field.Stalled = 1
most field.Pending = 1
most field.Cause = 255
most field.Capacity = 65535
most field.First = 65535
most field.Held = 65535
most field.Kept = 65535
most field.Oldest = 65535
most field.Cursor = 65535
most field.Sent = 65535
most field.Acked = 65535
most field.Wanted = 65535
most field.Position = 65535
most field.Owed = 65535
most field.Data = 65535
most field.Untold = 65535
most field.Discards = 65535

-- the counts of the ticket
unfoldable pub key_of : List ℕ → Option Key
key_of t =
    beside t
    ((ascii "accepted", key.Accepted) ∷
    (ascii "delivered", key.Delivered) ∷
    (ascii "damaged", key.Damaged) ∷
    (ascii "duplicate", key.Duplicate) ∷
    (ascii "downs", key.Downs) ∷
    [])
