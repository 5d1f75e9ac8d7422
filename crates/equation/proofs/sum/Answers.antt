use Rattle.std.proofs.Common.{◌≡◌, sym, ap, ◌∙◌, subst, rules, pos, List, [], ◌++◌, ℤ}
use Rattle.std.proofs.lemmas.List.{nil_from_length}
use Rattle.std.specs.Slice.Iter.{chunks_rest}
use lib.Signed.{lt_z}
use mir.Syntax.{w64}
use mir.Val.{SFits}
use Rattle.whole.proofs.Words.{of}
use Rattle.equation.specs.Room.{RoomFrom}
use Rattle.equation.specs.Inside.{terms, class_sums, joined}
use Rattle.equation.specs.declared.Term as code
use Rattle.equation.proofs.Classes.{no_sums, room_front, room_back, sums_back, sum_joined}
use Rattle.equation.proofs.sum.Goals as goal

-- of what was left of a table the first part is summed
module _ (pu pv sums : List ℤ) (left part rest : List code.Term) (is : left ≡ part ++ rest) where
  module _ (room : RoomFrom sums (terms left) pu pv) where
    room_is : RoomFrom sums (terms (part ++ rest)) pu pv
    room_is = subst (λ (l : List code.Term). RoomFrom sums (terms l) pu pv) is room

    part_room : RoomFrom sums (terms part) pu pv
    part_room = room_front pu pv sums part rest room_is

    rest_room : {more : List ℤ} → more ≡ class_sums sums (terms part) pu pv → RoomFrom more (terms rest) pu pv
    rest_room e = subst (λ (l : List ℤ). RoomFrom l (terms rest) pu pv) (sym e) (room_back pu pv sums part rest room_is)

  rest_sums : {more : List ℤ} → more ≡ class_sums sums (terms part) pu pv → class_sums more (terms rest) pu pv ≡ class_sums sums (terms left) pu pv
  rest_sums e =
      ap (λ (l : List ℤ). class_sums l (terms rest) pu pv) e
      ∙ sym (sums_back pu pv sums part rest)
      ∙ ap (λ (l : List code.Term). class_sums sums (terms l) pu pv) (sym is)

none_left : {left : List code.Term} (pu pv sums : List ℤ) → left ≡ [] → sums ≡ class_sums sums (terms left) pu pv
unfolding class_sums
none_left pu pv sums e = ap (λ (l : List code.Term). class_sums sums (terms l) pu pv) (sym e)

pub added-more-requires : goal.added-more-requires
added-more-requires c =
    part_room c.args.powers.of_u c.args.powers.of_v c.loop-nine.sums _ _ (chunks_rest c.next.new.self) c.in-Some.ensures.steps.1.0 c.loop-nine.invariant.room

pub loop-nine-preserved : goal.loop-nine-preserved
loop-nine-preserved c =
    let steps = c.in-Some.ensures.steps in
    let p = c.args.powers in
    record {
      nines = steps.0 ∙ c.loop-nine.invariant.nines;
      goes_on = rest_sums p.of_u p.of_v c.loop-nine.sums _ _ _ steps.1.0 c.added-more.ensures ∙ c.loop-nine.invariant.goes_on;
      room = rest_room p.of_u p.of_v c.loop-nine.sums _ _ _ steps.1.0 c.loop-nine.invariant.room c.added-more.ensures;
    }

pub returns : goal.returns
returns c =
    let p = c.args.powers in
    let ts = terms c.args.table.now in
    let u = p.u.0 in
    let v = p.v.0 in
    let fu : SFits w64 u = search rules in
    let fv : SFits w64 v = search rules in
    let sums =
    none_left p.of_u p.of_v c.loop-nine.sums (nil_from_length _ c.in-None.ensures.steps.1.0)
    ∙ c.loop-nine.invariant.goes_on
    ∙ (λ n. class_sums no_sums ts (p.are.0 n) (p.are.1 n)) in
    (of {w = w64} (record { sfits = c.joined.type_inv })).reads
    ∙ c.joined.ensures
    ∙ (λ n. joined (lt_z ((of {w = w64} {x = u} fu).reads n) (pos 0)) (lt_z ((of {w = w64} {x = v} fv).reads n) (pos 0)) (sums n))
    ∙ sym (sum_joined u v ts c.requires.each)
