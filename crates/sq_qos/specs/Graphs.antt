-- Fractions, quality graphs and losses.
use Rattle.std.specs.Prelude.{◌≡◌, ℕ, ◌+◌, ◌-◌, ◌*◌, ◌/◌, ◌%◌, max, Bool, true, false, ◌&&◌, if◌then◌else◌, nat_lt, nat_le, ◌==◌, List, [], ◌∷◌, map, length, Option, Some, None}
use Rattle.std.specs.declared.cmp.Ordering.{Ordering}
use Rattle.std.specs.Ordering.{nat_cmp}
use Rattle.std.specs.List.{range_with_len}
use Rattle.sq_qos.specs.declared.GraphErr.{GraphErr}
use Rattle.sq_qos.specs.declared.GraphErr.TheVariants as error

-- a fraction, with a denominator above 0
pub record Ratio : Type 0 where
  pub num : ℕ
  pub den : ℕ

-- which of two fractions is less, and whether they are equal
abbrev pub ratio_lt : Ratio → Ratio → Bool
ratio_lt a b = nat_lt (a.num * b.den) (b.num * a.den)

-- the order of fractions; a denominator of 0, which no fraction has, counts as 1, so that this is an order of all pairs
abbrev pub ratio_cmp : Ratio → Ratio → Ordering
ratio_cmp a b = nat_cmp (a.num * max 1 b.den) (b.num * max 1 a.den)

abbrev pub ratio_sum : Ratio → Ratio → Ratio
ratio_sum a b = record { num = a.num * b.den + b.num * a.den; den = a.den * b.den }

-- a graph: its points, an x in permille and a y each, with x from 0 to 1000
abbrev pub Points : Type 0
Points = List (ℕ × ℕ)

-- the value at x on the line from p to q
abbrev pub on_line : ℕ × ℕ → ℕ × ℕ → ℕ → Ratio
on_line p q x = record { num = p.1 * (q.0 - p.0) + (q.1 - p.1) * (x - p.0); den = q.0 - p.0 }

-- the value at x, on the line between the two points around it
abbrev pub value_at : Points → ℕ → Ratio
value_at [] x = record { num = 0; den = 1 }
value_at (p ∷ []) x = record { num = p.1; den = 1 }
value_at (p ∷ q ∷ rest) x = if nat_le x q.0 then on_line p q x else value_at (q ∷ rest) x

-- lcm(1..20): a graph's value at a multiple of 50, times this, is whole
abbrev pub scale : ℕ
scale = 232792560

abbrev pub scaled_value : Points → ℕ → ℕ
scaled_value g x = let u = value_at g x in scale * u.num / u.den

-- what is lost by the k-th step of 50 permille
abbrev pub loss_step : Points → ℕ → ℕ → ℕ
loss_step g weight k = weight * (scaled_value g (1000 - 50 * (k - 1)) - scaled_value g (1000 - 50 * k))

-- a loss, the weight times the scale times what the value falls by, as fractions and with nothing cut off
abbrev pub IsLossBetween : Ratio → Ratio → ℕ → ℕ → Type 0
IsLossBetween above below weight loss =
    loss * (above.den * below.den) + weight * scale * (below.num * above.den) ≡ weight * scale * (above.num * below.den)

abbrev pub loss_steps_of : Points → ℕ → List ℕ
loss_steps_of g weight = map (loss_step g weight) (range_with_len 1 20)

-- whether each x is a multiple of 50 of at most 1000 and greater than the x before, and each y at most 1000000
abbrev pub is_on_grid : ℕ → Points → Bool
is_on_grid least [] = true
is_on_grid least (p ∷ ps) =
    nat_le least p.0 && nat_le p.0 1000 && ((p.0 % 50) == 0) && nat_le p.1 1000000 && is_on_grid (p.0 + 1) ps

abbrev pub first_x : Points → ℕ
first_x [] = 1
first_x (p ∷ ps) = p.0

abbrev pub last_x : Points → ℕ
last_x [] = 0
last_x (p ∷ []) = p.0
last_x (p ∷ q ∷ ps) = last_x (q ∷ ps)

abbrev pub has_ends : Points → Bool
has_ends ps = nat_lt 1 (length ps) && (first_x ps == 0) && (last_x ps == 1000)

-- whether no y is less than the y before
abbrev pub rises : Points → Bool
rises [] = true
rises (p ∷ []) = true
rises (p ∷ q ∷ ps) = nat_le p.1 q.1 && rises (q ∷ ps)

-- whether no slope is greater than the slope before
abbrev pub is_no_steeper : ℕ × ℕ → ℕ × ℕ → ℕ × ℕ → Bool
is_no_steeper p q r = nat_le ((r.1 - q.1) * (q.0 - p.0)) ((q.1 - p.1) * (r.0 - q.0))

abbrev pub is_concave : Points → Bool
is_concave [] = true
is_concave (p ∷ []) = true
is_concave (p ∷ q ∷ []) = true
is_concave (p ∷ q ∷ r ∷ ps) = is_no_steeper p q r && is_concave (q ∷ r ∷ ps)

abbrev pub unless_error : Bool → GraphErr → Option GraphErr → Option GraphErr
unless_error true e more = more
unless_error false e more = Some e

-- why points are no graph, in this order
abbrev pub graph_error : Points → Option GraphErr
graph_error ps =
    unless_error (nat_le (length ps) 21) error.TooMany
    (unless_error (is_on_grid 0 ps) error.Grid
    (unless_error (has_ends ps) error.Ends
    (unless_error (rises ps) error.Falls
    (unless_error (is_concave ps) error.NotConcave None))))
