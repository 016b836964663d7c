-- A flit as the part of a slice that starts at its place, as the borrow checker says it: read, and written back; and buffers that are
-- written part after part. Of a part that comes back the borrow checker says `put_mid`: the part's bytes in their place.
use mathlib.Core.List.{List, ◌++◌, append_assoc}
use mathlib.Core.Path.{◌≡◌, sym, ap, ap₂, ◌∙◌}
use Prim.Native.Nat.{ℕ, ◌+◌, ◌*◌}
use borrow.Rule.Slice.PartMut.{put_mid}
use lib.ListN.{length, take, drop}
use lib.Seq.{take_at, drop_at, drop-drop}
use Rattle.end_state.specs.Ring.{flit_at, put_at}

-- the part from byte a to byte b, where these are the bounds of a place
pub flit_is : (store : List ℕ) (place a n : ℕ) → a ≡ place * 64 → n ≡ 64 → take n (drop a store) ≡ flit_at store place
unfolding flit_at
flit_is store place a n e f = ap₂ (λ (m b : ℕ). take m (drop b store)) f e

-- the store with that part written over
pub put_is : (store flit : List ℕ) (place a n : ℕ) → a ≡ place * 64 → n ≡ 64 → put_mid a n store flit ≡ put_at store place flit
unfolding put_at
put_is store flit place a n e f =
    ap₂ (λ (b m : ℕ). put_mid b m store flit) e f
    ∙ ap (λ (z : List ℕ). take (place * 64) store ++ (flit ++ z)) (drop-drop 64 (place * 64) store)

-- f is written after s, and the bytes past f stay
put_onto : (s f o : List ℕ) (a k b : ℕ) → length s ≡ a → a + k ≡ b → put_mid a k (s ++ drop a o) f ≡ (s ++ f) ++ drop b o
put_onto s f o a k b h e =
    ap₂ (λ (u v : List ℕ). u ++ (f ++ drop k v)) (take_at s (drop a o) a h) (drop_at s (drop a o) a h)
    ∙ ap (λ (r : List ℕ). s ++ (f ++ r)) (drop-drop k a o ∙ ap (λ (n : ℕ). drop n o) e)
    ∙ sym (append_assoc s f (drop b o))

-- the same, where what stood there is named
pub put_after : (s f g o p : List ℕ) (a k b : ℕ) → p ≡ s ++ drop a o → length s ≡ a → a + k ≡ b → f ≡ g
    → put_mid a k p f ≡ (s ++ g) ++ drop b o
put_after s f g o p a k b w h e v = ap₂ (λ (x y : List ℕ). put_mid a k x y) w v ∙ put_onto s g o a k b h e
