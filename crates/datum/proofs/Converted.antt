-- A point's converted position: which points have one, and between which numbers it lies. Assumes nothing.
use mathlib.Core.Path.{◌≡◌, refl, sym, ap, ◌∙◌, subst}
use mathlib.Core.Bool.{Bool, true, ◌&&◌, false≢true}
use mathlib.Core.Logic.{◌↔◌}
use Prim.Native.Nat.{ℕ}
use native.Mathlib.Omega.{arith}
use lib.Dec.{T}
use lib.IntN.{ℤ, pos, negsuc, neg_ℤ}
use lib.ListN.{get_or}
use lib.Signed.{le_z}
use borrow.Author.Tests.{leb-true, lt-ltb}
use Rattle.whole.proofs.Bools.{both, computed}
use Rattle.kinds.specs.Answer.{Answer, gives, refused, following}
use Rattle.kinds.specs.Kinds.{within, is_latitude, is_longitude, is_position, is_wgs84_latitude, is_four_bytes, converted}
use Rattle.kinds.proofs.Answers.{not_both, same_value, all_held}
use Rattle.kinds.proofs.Ranges.{wider}
use Rattle.kinds.proofs.Conversion.{converted_within}
use Rattle.tables.specs.Page.{Page, Family, shift, geoid, is_shift, each}
use Rattle.tables.specs.Cyprus.{cyprus}
use Rattle.tables.specs.Rule.{counted_from, longitude_on, in_box, worked}
use Rattle.tables.specs.Tables.{pages}
use Rattle.tables.proofs.Limits.{each_row, row_keeps}
use Rattle.datum.specs.Point.{page_of, row, tests, shift_of, converted_by, converted_of}
use Rattle.datum.proofs.Calls.{of_family, worked_shift}
use Rattle.datum.proofs.Points.{fit}

-- ---- it comes of a shift
module _ (code latitude longitude : ℤ) where
  -- the numbers of the shift, and what is made of them
  abbrev pub Shifted : ℤ × ℤ → Type 0
  Shifted p =
      (d_lat : ℤ) × ((d_lon : ℤ) × ((d_h : ℤ) × ((shift_of code latitude longitude ≡ gives (shift d_lat d_lon d_h))
      × ((converted latitude d_lat ≡ p.0) × (converted longitude d_lon ≡ p.1)))))

  pub from_shift : {p : ℤ × ℤ} → converted_of code latitude longitude ≡ gives p → Shifted p
  from_shift {p} = go (shift_of code latitude longitude) refl
    where
      go : (a : Answer (Family ℤ)) → shift_of code latitude longitude ≡ a → following a (converted_by latitude longitude) ≡ gives p → Shifted p
      go (gives (shift x y z)) e h = let same = same_value h in (x, (y, (z, (e, (ap (λ (q : ℤ × ℤ). q.0) same, ap (λ (q : ℤ × ℤ). q.1) same)))))
      go (gives (geoid n)) e h = absurd (not_both (sym h))
      go (refused n) e h = absurd (not_both (sym h))

  pub of_shift : {p : ℤ × ℤ} → Shifted p → converted_of code latitude longitude ≡ gives p
  of_shift (d_lat, (d_lon, (d_h, (e, (north, east))))) =
      ap (λ (a : Answer (Family ℤ)). following a (converted_by latitude longitude)) e ∙ (λ i. gives (north i, east i))

  -- and is refused as that is
  pub as_refused : (n : ℕ) → (converted_of code latitude longitude ≡ refused n) ↔ (shift_of code latitude longitude ≡ refused n)
  as_refused n = (go (shift_of code latitude longitude) refl, λ e. ap (λ (a : Answer (Family ℤ)). following a (converted_by latitude longitude)) e)
    where
      go : (a : Answer (Family ℤ)) → shift_of code latitude longitude ≡ a → following a (converted_by latitude longitude) ≡ refused n → a ≡ refused n
      go (gives (shift x y z)) e h = absurd (not_both h)
      go (gives (geoid m)) e h = absurd (false≢true (of_family is_shift is_shift worked_shift code latitude longitude e))
      go (refused m) e h = cc

-- ---- how far from the poles and from Greenwich it is, by one computed test of the pages
-- every area lies within 84° of the equator and from 0° to 300°
abbrev clear : Page → Bool
clear page = (le_z (neg_ℤ (pos 302400000)) page.south && le_z page.north (pos 302400000)) && (le_z (pos 0) page.west && le_z page.east (pos 1080000000))

row_clear : (n : ℕ) → T (clear (get_or pages n cyprus))
row_clear = each_row clear tt

-- a longitude is counted as it is where the west end is not below zero
as_it_is : (west longitude : ℤ) → le_z (pos 0) west ≡ true → is_longitude longitude ≡ true → counted_from west longitude ≡ longitude
as_it_is (pos w) (pos n) h k = simp (lt-ltb n 1296000000 (omega (arith, leb-true n 1295999999 (both (le_z (pos 0) (pos n)) (le_z (pos n) (pos 1295999999)) k).1)))
as_it_is (pos w) (negsuc n) h k = absurd (false≢true k)
as_it_is (negsuc w) longitude h k = absurd (false≢true h)

module _ (code latitude longitude : ℤ) {p : ℤ × ℤ} (e : converted_of code latitude longitude ≡ gives p) where
  abbrev page : Page
  page = page_of code

  -- the point is in the area, whose ends are known
  inside : (is_position latitude longitude ≡ true) × (in_box page latitude longitude ≡ true)
  inside =
      let (_, (_, (_, (s, _)))) = from_shift code latitude longitude e in
      let h = all_held (tests is_shift code latitude longitude) (gives (worked page latitude longitude)) s in
      both (is_position latitude longitude) (in_box page latitude longitude) h.0.1.1.1.0

  sides : (within page.south page.north latitude ≡ true) × (within page.west page.east (longitude_on page longitude) ≡ true)
  sides = both (within page.south page.north latitude) (within page.west page.east (longitude_on page longitude)) inside.1

  ends : ((le_z (neg_ℤ (pos 302400000)) page.south ≡ true) × (le_z page.north (pos 302400000) ≡ true)) × ((le_z (pos 0) page.west ≡ true) × (le_z page.east (pos 1080000000) ≡ true))
  ends =
      let c = both _ _ (computed (clear page) (row_clear (row code))) in
      (both _ _ c.0, both _ _ c.1)

  -- both of its shifts are in 4 bytes
  small : {d_lat d_lon d_h : ℤ} → shift_of code latitude longitude ≡ gives (shift d_lat d_lon d_h) → (is_four_bytes d_lat ≡ true) × (is_four_bytes d_lon ≡ true)
  small {d_lat} {d_lon} {d_h} s =
      let h = all_held (tests is_shift code latitude longitude) (gives (worked page latitude longitude)) s in
      let all = subst (λ (v : Family ℤ). each is_four_bytes v ≡ true) (same_value h.1) (fit page (row_keeps (row code)) latitude longitude inside.1) in
      let b = both (is_four_bytes d_lat) (is_four_bytes d_lon && is_four_bytes d_h) all in
      (b.0, (both (is_four_bytes d_lon) (is_four_bytes d_h) b.1).0)

  pub settled : (is_wgs84_latitude p.0 ≡ true) × (within (neg_ℤ (pos 2147483648)) (pos 110147483647) p.1 ≡ true)
  settled =
      let (d_lat, (d_lon, (d_h, (s, (is-north, is-east))))) = from_shift code latitude longitude e in
      let ranged = (both (is_latitude latitude) (is_longitude longitude) inside.0).1 in
      let east : within page.west page.east longitude ≡ true =
      subst (λ (x : ℤ). within page.west page.east x ≡ true) (as_it_is page.west longitude ends.1.0 ranged) sides.1 in (
        subst (λ (x : ℤ). is_wgs84_latitude x ≡ true) is-north
            (converted_within (neg_ℤ (pos 302400000)) (pos 302400000) (neg_ℤ (pos 32400000000)) (pos 32400000000) refl refl latitude d_lat
            (wider page.south page.north (neg_ℤ (pos 302400000)) (pos 302400000) latitude ends.0.0 ends.0.1 sides.0) (small s).0),
        subst (λ (x : ℤ). within (neg_ℤ (pos 2147483648)) (pos 110147483647) x ≡ true) is-east
            (converted_within (pos 0) (pos 1080000000) (neg_ℤ (pos 2147483648)) (pos 110147483647) refl refl longitude d_lon
            (wider page.west page.east (pos 0) (pos 1080000000) longitude ends.1.0 ends.1.1 east) (small s).1),
      )
