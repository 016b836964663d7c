-- Polynomials over two elements. A polynomial is the list of its coefficients, the highest power first; zeros in front of a list
-- change no polynomial. This is all of the algebra that the check speaks of: sum, product, divides, and the remainder by long division.
use Rattle.std.specs.Prelude.{◌≡◌, Bool, true, false, not, ◌&&◌, List, [], ◌∷◌, ◌++◌, map, ℕ, zero, suc, length, replicate}

-- the sum of two coefficients, without carry
abbrev pub xor : Bool → Bool → Bool
xor false b = b
xor true b = not b

-- the sum, coefficient by coefficient from the first; where one list is longer, its rest stays
abbrev pub plus : List Bool → List Bool → List Bool
plus [] v = v
plus (x ∷ u) [] = x ∷ u
plus (x ∷ u) (y ∷ v) = xor x y ∷ plus u v

-- a coefficient times a polynomial
abbrev pub scale : Bool → List Bool → List Bool
scale h p = map (λ c. h && c) p

-- the product as on paper: h times p, and under it, one place further on, the product of the rest
abbrev pub times : List Bool → List Bool → List Bool
times [] p = []
times (h ∷ q) p = plus (scale h p) (false ∷ times q p)

-- p divides u: there is a q with q times p = u. A product has as many coefficients as its factors make it; zeros in front of u make up for
-- that.
abbrev pub Divides : List Bool → List Bool → Type 0
Divides p u = (q : List Bool) × (zeros : ℕ) × (times q p ≡ replicate zeros false ++ u)

-- long division by x ^ m + .., of which `low` has the m coefficients below the first: n times, the first coefficient h goes, and h times
-- `low` is added to what comes after it
abbrev pub divide : List Bool → ℕ → List Bool → List Bool
divide low zero u = u
divide low (suc n) [] = []
divide low (suc n) (h ∷ u) = divide low n (plus (scale h low) u)

-- what is left of u after division by a polynomial whose first coefficient is 1: as many coefficients as come after that one. Zeros in
-- front of u make room for them.
abbrev pub remainder : List Bool → List Bool → List Bool
remainder [] u = u
remainder (first ∷ low) u = divide low (length u) (replicate (length low) false ++ u)
