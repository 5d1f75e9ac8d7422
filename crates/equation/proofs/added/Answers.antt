use Rattle.std.proofs.Common.{◌≡◌, refl, sym, ap, ◌∙◌, subst, rules, arith, ◌+◌, ◌*◌, ◌%◌, ◌<◌, ◌≤◌, ℕ, pos, nat_abs, get_or, length, drop, set, true, List, ◌∷◌, ℤ, ◌+ℤ◌, ◌*ℤ◌, add-one}
use lib.Dec.{T, lit<}
use lib.ListN.{drop_of_length-le}
use lib.Seq.{drop-cons}
use lib.IntN.{negsuc}
use lib.Signed.{non_neg}
use mir.Syntax.{w64}
use mir.Val.{Fits, SFits, of_z, to_z}
use Rattle.whole.specs.Round.{round_half_up, round_div, scale}
use Rattle.whole.proofs.Sizes.{abs-+, abs-*}
use Rattle.whole.proofs.Words.{Holds, of, to, wr, asks, gives, small, from_unsigned, to_unsigned, to_unsigned_asks, sized}
use Rattle.whole.proofs.Signs.{signed_round}
use Rattle.equation.specs.Equation.{Term, term, product}
use Rattle.equation.specs.Room.{Fitting, EachFits, RoomFrom}
use Rattle.equation.specs.Inside.{terms, with_term, class_sums, spread}
use Rattle.equation.specs.declared.Term as code
use Rattle.equation.proofs.Sums.{size_is, sizes_first}
use Rattle.equation.proofs.Classes.{in_spread, room_next}
use Rattle.equation.proofs.added.Goals as goal

-- a power, which is not negative, as an unsigned word
size_of : (x : ℤ) → T (non_neg x) → x ≡ pos (nat_abs x)
size_of (pos n) h = refl
size_of (negsuc n) h = absurd h

module _ (x : ℤ) (held : SFits w64 x) (above : T (non_neg x)) where
  word : Holds w64 (of_z w64 x) (pos (nat_abs x))
  word = to (size_of x above) (of held)

  word_asks : T (non_neg (to_z w64 (of_z w64 x))) × Fits w64 (nat_abs (to_z w64 (of_z w64 x)))
  word_asks = to_unsigned_asks w64 word (omega (arith, sized x held))

  word_is : nat_abs (to_z w64 (of_z w64 x)) ≡ nat_abs x
  word_is = to_unsigned word

abbrev none : code.Term
none = (pos 0, 0, 0)

-- the term that the loop has come to, whose powers are i and j, with what is left behind it
module _ (pu pv sums : List ℤ) (part : List code.Term) (n : ℕ) (walked : n < length part) (room : RoomFrom sums (terms (drop n part)) pu pv) {i j : ℕ} (is_i : i ≡ (get_or part n none).1) (is_j : j ≡ (get_or part n none).2) where
  abbrev c : ℤ
  c = (get_or part n none).0

  abbrev t : Term
  t = term c i j

  abbrev rest : List Term
  rest = terms (drop (n + 1) part)

  abbrev a : ℤ
  a = get_or pu i (pos 0)

  abbrev b : ℤ
  b = get_or pv j (pos 0)

  abbrev class : ℕ
  class = i % 2 * 2 + j % 2

  abbrev times : ℤ
  times = product scale i j pu pv

  abbrev now : ℤ
  now = get_or sums class (pos 0)

  left : terms (drop n part) ≡ t ∷ rest
  left =
      ap terms (drop-cons part n none walked ∙ ap (λ (m : ℕ). get_or part n none ∷ drop m part) (sym (add-one n)))
      ∙ sym (λ n. term c (is_i n) (is_j n) ∷ rest)

  here : RoomFrom sums (t ∷ rest) pu pv
  here = subst (λ (l : List Term). RoomFrom sums l pu pv) left room

  fits : Fitting t pu pv
  unfolding EachFits
  fits = here.each.0

  value_small : spread sums + nat_abs (c *ℤ times) < 9223372036854775808
  value_small = omega (arith, here.within, sizes_first pu pv t rest, size_is t pu pv)

  value_fits : SFits w64 (c *ℤ times)
  value_fits = small (c *ℤ times) (omega (arith, value_small))

  next_fits : SFits w64 (now +ℤ c *ℤ times)
  next_fits = small (now +ℤ c *ℤ times) (omega (arith, value_small, abs-+ now (c *ℤ times), in_spread sums class (omega arith)))

  -- the two powers, and what is divided
  module _ (fa : SFits w64 a) (fb : SFits w64 b) where
    a_is : nat_abs (to_z w64 (of_z w64 a)) ≡ nat_abs a
    a_is = word_is a fa fits.2

    b_is : nat_abs (to_z w64 (of_z w64 b)) ≡ nat_abs b
    b_is = word_is b fb fits.3

    divided_small : nat_abs (to_z w64 (of_z w64 a)) * nat_abs (to_z w64 (of_z w64 b)) < 9223372036854775808
    divided_small = rw ((λ n. a_is n * b_is n) ∙ sym (abs-* a b)) fits.4

    -- the product, the term's value, and the class's next sum
    module _ {p : ℕ} (p_is : p ≡ round_half_up (nat_abs (to_z w64 (of_z w64 a)) * nat_abs (to_z w64 (of_z w64 b))) scale) where
      small_result : p < 9223372036854775808
      small_result = omega (arith, p_is, divided_small)

      times_is : Holds w64 p times
      times_is = to is (from_unsigned small_result)
        where
          is : pos p ≡ times
          is =
              ap pos (p_is ∙ (λ n. round_half_up (a_is n * b_is n) scale))
              ∙ sym (signed_round true (nat_abs a * nat_abs b) scale)
              ∙ sym (λ n. round_div (size_of a fits.2 n *ℤ size_of b fits.3 n) scale)

      module _ (fc : SFits w64 c) where
        value_asks : SFits w64 (to_z w64 (of_z w64 c) *ℤ to_z w64 p)
        value_asks = asks ◌*ℤ◌ (of fc) times_is value_fits

        module _ (fs : SFits w64 now) where
          next_asks : SFits w64 (to_z w64 (of_z w64 now) +ℤ to_z w64 (wr w64 ◌*ℤ◌ (of_z w64 c) p))
          next_asks = asks ◌+ℤ◌ (of fs) (gives ◌*ℤ◌ (of fc) times_is value_fits) next_fits

          abbrev next : List ℤ
          next = set sums class (to_z w64 (wr w64 ◌+ℤ◌ (of_z w64 now) (wr w64 ◌*ℤ◌ (of_z w64 c) p)))

          next_is : with_term sums t pu pv ≡ next
          next_is = ap (set sums class) (sym (gives ◌+ℤ◌ (of fs) (gives ◌*ℤ◌ (of fc) times_is value_fits) next_fits).reads)

          next_room : RoomFrom next rest pu pv
          next_room = subst (λ (l : List ℤ). RoomFrom l rest pu pv) next_is (room_next pu pv sums t rest here)

          goes_on : class_sums next rest pu pv ≡ class_sums sums (terms (drop n part)) pu pv
          unfolding class_sums
          goes_on = ap (λ (l : List ℤ). class_sums l rest pu pv) (sym next_is) ∙ ap (λ (l : List Term). class_sums sums l pu pv) (sym left)

pub bounds-powers-i : goal.bounds-powers-i
bounds-powers-i c = (fits c.args.powers.of_u c.args.powers.of_v c.loop-term.sums c.args.part.now c.loop-term.term-index c.loop-term-test.true c.loop-term.invariant.room c.from-i.ensures c.from-j.ensures).0

pub bounds-powers-j : goal.bounds-powers-j
bounds-powers-j c = (fits c.args.powers.of_u c.args.powers.of_v c.loop-term.sums c.args.part.now c.loop-term.term-index c.loop-term-test.true c.loop-term.invariant.room c.from-i.ensures c.from-j.ensures).1

pub overflow_cast-powers : goal.overflow_cast-powers
overflow_cast-powers c =
    let fa : SFits w64 (get_or c.args.powers.of_u c.from-i.result (pos 0)) = search rules in
    word_asks (get_or c.args.powers.of_u c.from-i.result (pos 0)) fa (fits c.args.powers.of_u c.args.powers.of_v c.loop-term.sums c.args.part.now c.loop-term.term-index c.loop-term-test.true c.loop-term.invariant.room c.from-i.ensures c.from-j.ensures).2

pub overflow_cast-powers-in-loop-term : goal.overflow_cast-powers-in-loop-term
overflow_cast-powers-in-loop-term c =
    let fb : SFits w64 (get_or c.args.powers.of_v c.from-j.result (pos 0)) = search rules in
    word_asks (get_or c.args.powers.of_v c.from-j.result (pos 0)) fb (fits c.args.powers.of_u c.args.powers.of_v c.loop-term.sums c.args.part.now c.loop-term.term-index c.loop-term-test.true c.loop-term.invariant.room c.from-i.ensures c.from-j.ensures).3

pub overflow_mul-powers : goal.overflow_mul-powers
overflow_mul-powers c =
    let fa : SFits w64 (get_or c.args.powers.of_u c.from-i.result (pos 0)) = search rules in
    let fb : SFits w64 (get_or c.args.powers.of_v c.from-j.result (pos 0)) = search rules in
    record { fits = omega (arith, divided_small c.args.powers.of_u c.args.powers.of_v c.loop-term.sums c.args.part.now c.loop-term.term-index c.loop-term-test.true c.loop-term.invariant.room c.from-i.ensures c.from-j.ensures fa fb) }

pub nearest-product-requires : goal.nearest-product-requires
nearest-product-requires c =
    let fa : SFits w64 (get_or c.args.powers.of_u c.from-i.result (pos 0)) = search rules in
    let fb : SFits w64 (get_or c.args.powers.of_v c.from-j.result (pos 0)) = search rules in
    (lit< tt, omega (arith, divided_small c.args.powers.of_u c.args.powers.of_v c.loop-term.sums c.args.part.now c.loop-term.term-index c.loop-term-test.true c.loop-term.invariant.room c.from-i.ensures c.from-j.ensures fa fb))

pub overflow_cast-sums : goal.overflow_cast-sums
overflow_cast-sums c =
    let fa : SFits w64 (get_or c.args.powers.of_u c.from-i.result (pos 0)) = search rules in
    let fb : SFits w64 (get_or c.args.powers.of_v c.from-j.result (pos 0)) = search rules in
    record { sfits = small_result c.args.powers.of_u c.args.powers.of_v c.loop-term.sums c.args.part.now c.loop-term.term-index c.loop-term-test.true c.loop-term.invariant.room c.from-i.ensures c.from-j.ensures fa fb c.nearest-product.ensures }

pub overflow_mul-sums : goal.overflow_mul-sums
overflow_mul-sums c =
    let fa : SFits w64 (get_or c.args.powers.of_u c.from-i.result (pos 0)) = search rules in
    let fb : SFits w64 (get_or c.args.powers.of_v c.from-j.result (pos 0)) = search rules in
    let fc : SFits w64 (get_or c.args.part.now c.loop-term.term-index none).0 = search rules in
    value_asks c.args.powers.of_u c.args.powers.of_v c.loop-term.sums c.args.part.now c.loop-term.term-index c.loop-term-test.true c.loop-term.invariant.room c.from-i.ensures c.from-j.ensures fa fb c.nearest-product.ensures fc

pub overflow_add-sums : goal.overflow_add-sums
overflow_add-sums c =
    let fa : SFits w64 (get_or c.args.powers.of_u c.from-i.result (pos 0)) = search rules in
    let fb : SFits w64 (get_or c.args.powers.of_v c.from-j.result (pos 0)) = search rules in
    let fc : SFits w64 (get_or c.args.part.now c.loop-term.term-index none).0 = search rules in
    let fs : SFits w64 (get_or c.loop-term.sums (c.from-i.result % 2 * 2 + c.from-j.result % 2) (pos 0)) = search rules in
    next_asks c.args.powers.of_u c.args.powers.of_v c.loop-term.sums c.args.part.now c.loop-term.term-index c.loop-term-test.true c.loop-term.invariant.room c.from-i.ensures c.from-j.ensures fa fb c.nearest-product.ensures fc fs

pub loop-term-preserved : goal.loop-term-preserved
loop-term-preserved c =
    let fa : SFits w64 (get_or c.args.powers.of_u c.from-i.result (pos 0)) = search rules in
    let fb : SFits w64 (get_or c.args.powers.of_v c.from-j.result (pos 0)) = search rules in
    let fc : SFits w64 (get_or c.args.part.now c.loop-term.term-index none).0 = search rules in
    let fs : SFits w64 (get_or c.loop-term.sums (c.from-i.result % 2 * 2 + c.from-j.result % 2) (pos 0)) = search rules in
    record {
      goes_on = goes_on c.args.powers.of_u c.args.powers.of_v c.loop-term.sums c.args.part.now c.loop-term.term-index c.loop-term-test.true c.loop-term.invariant.room c.from-i.ensures c.from-j.ensures fa fb c.nearest-product.ensures fc fs ∙ c.loop-term.invariant.goes_on;
      room = next_room c.args.powers.of_u c.args.powers.of_v c.loop-term.sums c.args.part.now c.loop-term.term-index c.loop-term-test.true c.loop-term.invariant.room c.from-i.ensures c.from-j.ensures fa fb c.nearest-product.ensures fc fs;
    }

-- none is left
done : (pu pv sums : List ℤ) (part : List code.Term) (n : ℕ) → length part ≤ n → sums ≡ class_sums sums (terms (drop n part)) pu pv
unfolding class_sums
done pu pv sums part n h = ap (λ (l : List code.Term). class_sums sums (terms l) pu pv) (sym (drop_of_length-le part h))

pub returns : goal.returns
returns c =
    done c.args.powers.of_u c.args.powers.of_v c.loop-term.sums c.args.part.now c.loop-term.term-index c.loop-term-test.false
    ∙ c.loop-term.invariant.goes_on
