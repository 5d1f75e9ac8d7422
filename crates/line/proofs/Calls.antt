-- A place that was read is answered, and a line with it: what each return answers, and leaves in the lent buffer. Assumes nothing.
use mathlib.Core.Path.{◌≡◌, refl, sym, ap, ◌∙◌}
use mathlib.Core.Bool.{true, ◌&&◌}
use mathlib.Core.List.{List, [], ◌∷◌, ◌++◌}
use Prim.Native.Nat.{ℕ}
use lib.IntN.{ℤ}
use lib.ListN.{length}
use Rattle.whole.proofs.Bools.{both}
use Rattle.kinds.specs.Answer.{Answer, gives, refused, in_order, placed, following, counted, lent}
use Rattle.kinds.proofs.Answers.{same_value, all_held, held, first_failed, fails, in_two, following_tests, followed_on}
use Rattle.kinds.proofs.Writing.{Written, none_laid}
use Rattle.position.specs.Text.{latitude, longitude, letter, angle, in_sixties, no_zero_south, has_text, right_ranges}
use Rattle.tables.specs.Page.{Family}
use Rattle.tables.specs.Rule.{worked}
use Rattle.datum.specs.Point.{answer_of, converted_of, page_of}
use Rattle.waypoint.specs.Waypoint.{element, element_of}
use Rattle.line.specs.Line.{line_feed, code, latitude_text, longitude_text, latitude_of, longitude_of, line_ranges, text_tests, place_tests, answer_to, answer_line, line_of, text_to, line_in}
use Rattle.line.specs.Inside.{Said, point_said, text_of}
use Rattle.line.specs.declared.Form.{Form}
use Rattle.line.specs.declared.Form.TheVariants.{Numbers, Waypoints}

-- ---- a place, whose numbers the code holds as c, n and e: its text by what is answered of these
module _ (said : Said) {c n e : ℤ} (is_c : c ≡ said.code) (is-n : n ≡ said.latitude) (is-e : e ≡ said.longitude) where
  pub numbers_by : {a : Answer (Family ℤ)} → a ≡ answer_of c n e → text_of Numbers said ≡ following a (λ values. gives (answer_line values))
  unfolding text_of
  numbers_by h = ap (λ (a : Answer (Family ℤ)). following a (λ values. gives (answer_line values))) (sym (h ∙ (λ i. answer_of (is_c i) (is-n i) (is-e i))))

  pub waypoint_by : {a : Answer (ℤ × ℤ)} → a ≡ converted_of c n e → text_of Waypoints said ≡ following (following a (λ position. gives (element position.0 position.1))) (λ element. gives (element ++ line_feed ∷ []))
  unfolding text_of
  waypoint_by h =
      ap (λ (a : Answer (ℤ × ℤ)). following (following a (λ position. gives (element position.0 position.1))) (λ element. gives (element ++ line_feed ∷ [])))
      (sym (h ∙ (λ i. converted_of (is_c i) (is-n i) (is-e i))))

-- ---- a line
-- of texts in range, a point's answer is that of the page, 4 and then 6
pub in_range : (t : List ℕ) → line_ranges t ≡ true → answer_of (code t) (latitude_of t) (longitude_of t) ≡ in_order (place_tests t) (gives (worked (page_of (code t)) (latitude_of t) (longitude_of t)))
in_range t h =
    let r = both (right_ranges latitude (latitude_text t)) (right_ranges longitude (longitude_text t)) h in
    let north = (both (in_sixties latitude (latitude_text t) && no_zero_south (letter latitude (latitude_text t)) (angle latitude (latitude_text t))) (has_text latitude (latitude_of t)) r.0).1 in
    let east = (both (in_sixties longitude (longitude_text t) && no_zero_south (letter longitude (longitude_text t)) (angle longitude (longitude_text t))) (has_text longitude (longitude_of t)) r.1).1 in
    simp (north, east)

-- what was read is answered as the line is
module _ (t : List ℕ) where
  abbrev said_by : Said
  said_by = record { code = code t; latitude = latitude_of t; longitude = longitude_of t }

  -- after the tests of its text
  abbrev after : Form → Answer (List ℕ)
  after Numbers = following (in_order (place_tests t) (gives (worked (page_of (code t)) (latitude_of t) (longitude_of t)))) (λ values. gives (answer_line values))
  after Waypoints = following (element_of (code t) (latitude_of t) (longitude_of t)) (λ element. gives (element ++ line_feed ∷ []))

  text_is : (form : Form) → text_to form t ≡ in_order (text_tests t) (after form)
  text_is Numbers =
      ap (λ (a : Answer (Family ℤ)). following a (λ values. gives (answer_line values))) (in_two (text_tests t) (place_tests t) (gives (worked (page_of (code t)) (latitude_of t) (longitude_of t))))
      ∙ following_tests (text_tests t) (in_order (place_tests t) (gives (worked (page_of (code t)) (latitude_of t) (longitude_of t)))) (λ values. gives (answer_line values))
  text_is Waypoints = following_tests (text_tests t) (element_of (code t) (latitude_of t) (longitude_of t)) (λ element. gives (element ++ line_feed ∷ []))

  -- which a point that was read has passed
  point_is : (form : Form) → line_ranges t ≡ true → text_of form said_by ≡ after form
  unfolding text_of
  point_is Numbers h = ap (λ (a : Answer (Family ℤ)). following a (λ values. gives (answer_line values))) (in_range t h)
  point_is Waypoints h = refl

  pub read_on : (form : Form) {s : Said} → point_said t ≡ gives s → text_of form s ≡ text_to form t
  unfolding point_said
  read_on form {s} h =
      let all = all_held (text_tests t) (gives said_by) h in
      ap (text_of form) (sym (same_value all.1)) ∙ point_is form all.0.1.1.0 ∙ sym (text_is form ∙ held (text_tests t) _ all.0)

  pub not_read : (form : Form) {n : ℕ} → point_said t ≡ refused n → text_to form t ≡ refused n
  unfolding point_said
  not_read form {n} h = text_is form ∙ fails (text_tests t) _ n (first_failed (text_tests t) said_by n h)

-- so it is answered as what is read of it is
pub text_by : (form : Form) (t : List ℕ) → text_to form t ≡ following (point_said t) (text_of form)
text_by form t = go (point_said t) refl
  where
    go : (a : Answer Said) → point_said t ≡ a → text_to form t ≡ following a (text_of form)
    go (gives s) h = sym (read_on t form h)
    go (refused n) h = not_read t form h

-- in a lent buffer: a is what is answered, and b the buffer afterwards
module _ (form : Form) (t out : List ℕ) where
  pub line_put : {s : Said} → point_said t ≡ gives s → {a : Answer ℕ} {b : List ℕ} → Written (following (text_of form s) (λ text. placed text (length out))) out a b → Written (line_in form t (length out)) out a b
  line_put h w =
      let e = ap (λ (v : Answer (List ℕ)). following v (λ text. placed text (length out))) (read_on t form h) in
      (w.0 ∙ ap counted e, w.1 ∙ ap (λ (v : Answer (List ℕ)). lent v out) e)

  pub none_put : {n : ℕ} → text_to form t ≡ refused n → Written (line_in form t (length out)) out (refused n) out
  none_put h = none_laid out (ap (λ (v : Answer (List ℕ)). following v (λ text. placed text (length out))) h)

-- in numbers it is the line of document 01
pub numbers_are : (t : List ℕ) (room : ℕ) → line_in Numbers t room ≡ line_of t room
numbers_are t room = followed_on (answer_to t) answer_line (λ text. placed text room)
