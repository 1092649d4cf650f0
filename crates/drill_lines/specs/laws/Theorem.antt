-- The automaton reads what the grammar says, proved byte by byte.
use Prim.Native.Nat.{ℕ, zero, suc, ◌+◌, ◌*◌, ◌^◌, ◌≤◌, ◌<◌}
use Rattle.std.specs.Prelude.{Bool, ◌&&◌, ◌||◌, ◌≡◌, eqb, ltb, Option, Some, None}
use Rattle.std.specs.Option.{option_and_then}
use Rattle.std.proofs.Math.Bool.{true, false, cond, and-true, and-false}
use Rattle.std.proofs.lemmas.Bool.{false≢true}
use mathlib.Core.List.{List, [], ◌∷◌}
use Rattle.std.proofs.Math.Path.{refl, sym}
use Rattle.std.proofs.Common.{ap, ◌∙◌, arith}
use Rattle.std.proofs.Math.ListN.{length}
use borrow.Author.Tests.{lt-ltb, le-ltb, eq-eqb, ne_eqb, ltb-true, ltb-false, eqb-true}
use Rattle.text.specs.Fields.{TAB, in_front, fields, letter}
use Rattle.text.specs.Numbers.{digit_of, base_of, all_digits, value_from, value_of, complete, right, all_right, values_of}
use Rattle.drill_lines.specs.Grammar.{letter_of, line_or, line_n, line_c, line_p, line_t, line_d, line_l, line_r, by_letter, line_of_fields, line_of}
use Rattle.drill_lines.specs.Automaton.{count_of, second_form, form_of, room, digit_count, pushed, no_numbers, reading, start, lettered, parted, extended_as, extended, next, read, fed, line_with, line_read, finished, fed_all}
use Rattle.drill_lines.specs.declared.Letter.{Letter}
use Rattle.drill_lines.specs.declared.Letter.TheVariants.{N, C, P, T, D, L, R}
use Rattle.drill_lines.specs.declared.Line.{Line}
use Rattle.drill_lines.specs.declared.Fields.{Fields}
use Rattle.drill_lines.specs.declared.Reader.TheVariants.{Open, Bad}
use Rattle.drill_lines.specs.Theorem.{ReadsLines}

pub cond_same : {A : Type 0} (b : Bool) (x : A) → cond b x x ≡ x
cond_same true x = refl
cond_same false x = refl

cond_and : (t a b : Bool) (l : Option Line) → cond ((t && a) && b) l None ≡ cond t (cond (a && b) l None) None
cond_and true a b l = refl
cond_and false a b l = refl

-- a field whose first digits are read: d of them, with the number v
right_from : (form d v : ℕ) → List ℕ → Bool
right_from w d v g = complete w (d + length g) && (all_digits (base_of w) g && ltb (value_from (base_of w) v g) (2 ^ 64))

and_right : (a b : Bool) → (a && b) ≡ true → b ≡ true
and_right true b e = e
and_right false b e = absurd (false≢true e)

-- the test of one digit more
takes : (form d v c : ℕ) → Bool
takes w d v c = room w d && (ltb (digit_of c) (base_of w) && ltb (v * base_of w + digit_of c) (2 ^ 64))

takes_below : (w d v c : ℕ) → takes w d v c ≡ true → v * base_of w + digit_of c < 2 ^ 64
unfolding takes
takes_below w d v c e = ltb-true _ _ (and_right (ltb (digit_of c) (base_of w)) _ (and_right (room w d) _ e))

base_grows : (w v : ℕ) → v ≤ v * base_of w
unfolding base_of
base_grows w v = go (eqb w 10)
  where
    go : (t : Bool) → v ≤ v * cond t 10 16
    go true = omega arith
    go false = omega arith

value_grows : (w v : ℕ) (g : List ℕ) → v ≤ value_from (base_of w) v g
unfolding value_from
value_grows w v [] = omega arith
value_grows w v (c ∷ g) = omega (arith, base_grows w v, value_grows w (v * base_of w + digit_of c) g)

-- the number of digits is right with one more as it is with the rest
complete_step : (w d l : ℕ) → room w d ≡ true → complete w (d + suc l) ≡ complete w (digit_count w d + l)
unfolding complete digit_count room
complete_step w d l = go (eqb w 10) (ltb d w) (ltb-true d w)
  where
    go : (t s : Bool) → (s ≡ true → d < w) → (t || s) ≡ true →
        cond t (ltb 0 (d + suc l)) (eqb (d + suc l) w) ≡ cond t (ltb 0 (cond t 1 (cond s (d + 1) d) + l)) (eqb (cond t 1 (cond s (d + 1) d) + l) w)
    go true s h e = lt-ltb 0 (d + suc l) (omega arith) ∙ sym (lt-ltb 0 (1 + l) (omega arith))
    go false true h e = ap (λ (n : ℕ). eqb n w) (omega arith)
    go false false h e = absurd (false≢true e)

complete_full : (w d l : ℕ) → room w d ≡ false → complete w (d + suc l) ≡ false
unfolding complete room
complete_full w d l = go (eqb w 10) (ltb d w) (ltb-false d w)
  where
    go : (t s : Bool) → (s ≡ false → w ≤ d) → (t || s) ≡ false → cond t (ltb 0 (d + suc l)) (eqb (d + suc l) w) ≡ false
    go true s h e = absurd (false≢true (sym e))
    go false s h e = let q : w ≤ d = h e in ne_eqb (d + suc l) w (λ z. omega arith)

right_step : (w d v c : ℕ) (g : List ℕ) → right_from w d v (c ∷ g) ≡ (takes w d v c && right_from w (digit_count w d) (v * base_of w + digit_of c) g)
unfolding right_from takes all_digits value_from
right_step w d v c g =
    go (room w d) refl (ltb (digit_of c) (base_of w)) (v * base_of w + digit_of c) (ltb (v * base_of w + digit_of c) (2 ^ 64)) refl
    (value_from (base_of w) (v * base_of w + digit_of c) g) (value_grows w (v * base_of w + digit_of c) g)
  where
    go : (r : Bool) → room w d ≡ r → (t : Bool) (m : ℕ) (s : Bool) → ltb m (2 ^ 64) ≡ s → (n : ℕ) → m ≤ n →
        (complete w (d + suc (length g)) && ((t && all_digits (base_of w) g) && ltb n (2 ^ 64)))
        ≡ ((r && (t && s)) && (complete w (digit_count w d + length g) && (all_digits (base_of w) g && ltb n (2 ^ 64))))
    go false e t m s f n l = rw (complete_full w d (length g) e)
    go true e false m s f n l = and-false (complete w (d + suc (length g)))
    go true e true m true f n l = rw (complete_step w d (length g) e)
    go true e true m false f n l =
        let big : 2 ^ 64 ≤ m = ltb-false m (2 ^ 64) f in
        rw (le-ltb n (2 ^ 64) (omega arith), and-false (all_digits (base_of w) g)) (and-false (complete w (d + suc (length g))))

right_whole : (w : ℕ) (g : List ℕ) → right_from w 0 0 g ≡ right w g
unfolding right_from right value_of
right_whole w g = let e : 0 + length g ≡ length g = omega arith in rw e

right_read : (w d v : ℕ) → v < 2 ^ 64 → right_from w d v [] ≡ complete w d
unfolding right_from all_digits value_from
right_read w d v h = let e : d + 0 ≡ d = omega arith in rw (e, lt-ltb v (2 ^ 64) h) (and-true _)

-- a line of the wrong form stays so
stays_bad : (b : List ℕ) → finished (fed_all Bad b) ≡ None
unfolding finished fed_all fed
stays_bad [] = refl
stays_bad (c ∷ b) = stays_bad b

-- a test that leads on, or to a line of the wrong form
leads : (t : Bool) (f : Fields) (b : List ℕ) (l : Option Line) → (t ≡ true → finished (fed_all (Open f) b) ≡ l) →
    finished (fed_all (read (cond t (Some f) None)) b) ≡ cond t l None
unfolding read
leads true f b l h = h refl
leads false f b l h = stays_bad b

-- the forms of n fields from a field on
forms_from : (letter : Letter) (field n : ℕ) → List ℕ
forms_from k f zero = []
forms_from k f (suc n) = form_of k f ∷ forms_from k (f + 1) n

pushed_all : List ℕ → List ℕ → List ℕ
pushed_all x [] = x
pushed_all x (v ∷ vs) = pushed_all (pushed x v) vs

-- the line of what is read and the fields of the bytes that are left; w is the form of the field being read, ws are those of the fields after it
meant : (letter : Letter) (w : ℕ) → List ℕ → (d v : ℕ) (x : List ℕ) → List (List ℕ) → Option Line
meant k w ws d v x [] = None
meant k w ws d v x (g ∷ gs) =
    cond (right_from w d v g && all_right ws gs) (Some (line_with k (pushed_all x (value_from (base_of w) v g ∷ values_of ws gs)))) None

-- there is always a first field
some_field : (b : List ℕ) → all_right [] (fields b) ≡ false
unfolding fields all_right in_front
some_field [] = refl
some_field (c ∷ b) = go (eqb c TAB) (fields b) (some_field b)
  where
    go : (t : Bool) (fs : List (List ℕ)) → all_right [] fs ≡ false → all_right [] (cond t ([] ∷ fs) (in_front c fs)) ≡ false
    go true fs h = refl
    go false [] h = h
    go false (f ∷ fs) h = refl

module _ (k : Letter) (w : ℕ) (ws : List ℕ) (d v : ℕ) (x : List ℕ) where
  -- a digit more, and the bytes after it
  meant_digit : (c : ℕ) (fs : List (List ℕ)) →
      meant k w ws d v x (in_front c fs) ≡ cond (takes w d v c) (meant k w ws (digit_count w d) (v * base_of w + digit_of c) x fs) None
  unfolding meant in_front value_from
  meant_digit c [] = sym (cond_same (takes w d v c) None)
  meant_digit c (g ∷ gs) = rw (right_step w d v c g) (cond_and (takes w d v c) _ _ _)

  -- the field is over, and another follows
  meant_tab : (u : ℕ) (us : List ℕ) → v < 2 ^ 64 → (t : Bool) → complete w d ≡ t → (fs : List (List ℕ)) →
      cond t (meant k u us 0 0 (pushed x v) fs) None
      ≡ cond (right_from w d v [] && all_right (u ∷ us) fs) (Some (line_with k (pushed_all x (v ∷ values_of (u ∷ us) fs)))) None
  unfolding meant all_right values_of pushed_all value_of
  meant_tab u us h true e [] = rw (right_read w d v h, e)
  meant_tab u us h true e (g ∷ gs) = rw (right_read w d v h, e, right_whole u g)
  meant_tab u us h false e fs = rw (right_read w d v h, e)

-- the statement, for a line that may still be of the right form, with n fields after the one being read
Means : (k : Letter) (f d v : ℕ) (x : List ℕ) (n : ℕ) → List ℕ → Type 0
Means k f d v x n b = finished (fed_all (Open (reading k f d v x)) b) ≡ meant k (form_of k f) (forms_from k (f + 1) n) d v x (fields b)

module _ (k : Letter) (f d v : ℕ) (x : List ℕ) (h : v < 2 ^ 64) where
  means_end : (n : ℕ) → f + suc n ≡ count_of k → Means k f d v x n []
  unfolding Means finished line_read fed_all reading fields meant forms_from pushed_all values_of all_right value_from
  means_end zero e = rw (right_read (form_of k f) d v h, eq-eqb (f + 1) (count_of k) e)
  means_end (suc n) e =
      rw (right_read (form_of k f) d v h, ne_eqb (f + 1) (count_of k) (λ q. omega arith), and-false (complete (form_of k f) d))

  module _ (b : List ℕ) where
    means_tab : (n : ℕ) → f + suc n ≡ count_of k → ((m : ℕ) → n ≡ suc m → Means k (f + 1) 0 0 (pushed x v) m b) →
        finished (fed_all (read (parted (reading k f d v x))) b) ≡ meant k (form_of k f) (forms_from k (f + 1) n) d v x ([] ∷ fields b)
    unfolding Means parted reading read meant forms_from value_from
    means_tab zero e r =
        rw (le-ltb (f + 1) (count_of k) (omega arith), and-false (complete (form_of k f) d), some_field b, and-false (right_from (form_of k f) d v []))
        (stays_bad b)
    means_tab (suc m) e r =
        rw (lt-ltb (f + 1) (count_of k) (omega arith), and-true (complete (form_of k f) d))
        (leads (complete (form_of k f) d) _ b _ (λ t. r m refl)
        ∙ meant_tab k (form_of k f) [] d v x (form_of k (f + 1)) (forms_from k (f + 1 + 1) m) h (complete (form_of k f) d) refl (fields b))

    means_digit : (n c : ℕ) → (v * base_of (form_of k f) + digit_of c < 2 ^ 64 → Means k f (digit_count (form_of k f) d) (v * base_of (form_of k f) + digit_of c) x n b) →
        finished (fed_all (read (extended (reading k f d v x) c)) b) ≡ meant k (form_of k f) (forms_from k (f + 1) n) d v x (in_front c (fields b))
    unfolding Means extended extended_as takes reading
    means_digit n c r =
        leads (takes (form_of k f) d v c) _ b _ (λ t. r (takes_below (form_of k f) d v c t))
        ∙ sym (meant_digit k (form_of k f) (forms_from k (f + 1) n) d v x c (fields b))

means_more : (k : Letter) (f d v : ℕ) (x : List ℕ) (n c : ℕ) (b : List ℕ) → v < 2 ^ 64 → f + suc n ≡ count_of k →
    ((m : ℕ) → n ≡ suc m → Means k (f + 1) 0 0 (pushed x v) m b) →
    (v * base_of (form_of k f) + digit_of c < 2 ^ 64 → Means k f (digit_count (form_of k f) d) (v * base_of (form_of k f) + digit_of c) x n b) →
    Means k f d v x n (c ∷ b)
unfolding Means fed_all fed next fields
means_more k f d v x n c b h e r s = go (eqb c TAB)
  where
    go : (t : Bool) →
        finished (fed_all (read (cond t (parted (reading k f d v x)) (extended (reading k f d v x) c))) b)
        ≡ meant k (form_of k f) (forms_from k (f + 1) n) d v x (cond t ([] ∷ fields b) (in_front c (fields b)))
    go true = means_tab k f d v x h b n e r
    go false = means_digit k f d v x h b n c s

means : (b : List ℕ) (k : Letter) (f d v : ℕ) (x : List ℕ) (n : ℕ) → v < 2 ^ 64 → f + suc n ≡ count_of k → Means k f d v x n b
means [] k f d v x n h e = means_end k f d v x h n e
means (c ∷ b) k f d v x n h e =
    means_more k f d v x n c b h e (λ m q. means b k (f + 1) 0 0 (pushed x v) m (omega arith) (omega arith))
    (λ l. means b k f (digit_count (form_of k f) d) (v * base_of (form_of k f) + digit_of c) x n l e)

-- as many numbers as forms, where all fields are right
values_length : (ws : List ℕ) (fs : List (List ℕ)) → all_right ws fs ≡ true → length (values_of ws fs) ≡ length ws
unfolding all_right values_of
values_length [] fs e = refl
values_length (w ∷ ws) [] e = absurd (false≢true e)
values_length (w ∷ ws) (f ∷ fs) e = ap suc (values_length ws fs (and_right (right w f) _ e))

-- the statement for a line with a first byte
Starts : ℕ → List ℕ → Type 0
Starts c b = finished (fed_all (read (lettered c)) b) ≡ line_of_fields (in_front c (fields b))

-- a letter whose line takes its numbers from the last of six, and the byte that it is
module _ (k : Letter) (ws : List ℕ) (make : List ℕ → Line)
    (same : (xs : List ℕ) → length xs ≡ length ws → line_with k (pushed_all no_numbers (0 ∷ xs)) ≡ make xs)
    (here : (fs : List (List ℕ)) → by_letter k fs ≡ line_or ws fs make) (c : ℕ) (is : letter_of c ≡ Some k) where
  letter_fields : (fs : List (List ℕ)) → meant k 0 ws 0 0 no_numbers fs ≡ line_of_fields (in_front c fs)
  unfolding meant in_front line_of_fields letter letter_of right_from complete all_digits value_from line_or
  letter_fields [] = refl
  letter_fields ((e ∷ g) ∷ gs) = rw (ne_eqb (0 + suc (length g)) 0 (λ z. omega arith))
  letter_fields ([] ∷ gs) = go (all_right ws gs) (values_length ws gs) ∙ sym (here gs) ∙ sym (ap (option_and_then (λ l. by_letter l gs)) is)
    where
      go : (t : Bool) → (t ≡ true → length (values_of ws gs) ≡ length ws) →
          cond t (Some (line_with k (pushed_all no_numbers (0 ∷ values_of ws gs)))) None ≡ cond t (Some (make (values_of ws gs))) None
      go true h = ap Some (same (values_of ws gs) (h refl))
      go false h = refl

  starts_with : (n : ℕ) (b : List ℕ) → suc n ≡ count_of k → forms_from k 1 n ≡ ws → Starts c b
  unfolding Starts lettered read Means form_of
  starts_with n b e f = rw is (means b k 0 0 0 no_numbers n (omega arith) (omega arith) ∙ rw f (letter_fields (fields b)))

same_n : (xs : List ℕ) → length xs ≡ 4 → line_with N (pushed_all no_numbers (0 ∷ xs)) ≡ line_n xs
unfolding line_with pushed_all pushed no_numbers line_n
same_n [] h = absurd (omega arith)
same_n (a ∷ []) h = absurd (omega arith)
same_n (a ∷ b ∷ []) h = absurd (omega arith)
same_n (a ∷ b ∷ c ∷ []) h = absurd (omega arith)
same_n (a ∷ b ∷ c ∷ d ∷ []) h = refl
same_n (a ∷ b ∷ c ∷ d ∷ e ∷ xs) h = absurd (omega arith)

same_c : (xs : List ℕ) → length xs ≡ 2 → line_with C (pushed_all no_numbers (0 ∷ xs)) ≡ line_c xs
unfolding line_with pushed_all pushed no_numbers line_c
same_c [] h = absurd (omega arith)
same_c (a ∷ []) h = absurd (omega arith)
same_c (a ∷ b ∷ []) h = refl
same_c (a ∷ b ∷ c ∷ xs) h = absurd (omega arith)

same_p : (xs : List ℕ) → length xs ≡ 2 → line_with P (pushed_all no_numbers (0 ∷ xs)) ≡ line_p xs
unfolding line_with pushed_all pushed no_numbers line_p
same_p [] h = absurd (omega arith)
same_p (a ∷ []) h = absurd (omega arith)
same_p (a ∷ b ∷ []) h = refl
same_p (a ∷ b ∷ c ∷ xs) h = absurd (omega arith)

same_t : (xs : List ℕ) → length xs ≡ 1 → line_with T (pushed_all no_numbers (0 ∷ xs)) ≡ line_t xs
unfolding line_with pushed_all pushed no_numbers line_t
same_t [] h = absurd (omega arith)
same_t (a ∷ []) h = refl
same_t (a ∷ b ∷ xs) h = absurd (omega arith)

same_d : (xs : List ℕ) → length xs ≡ 2 → line_with D (pushed_all no_numbers (0 ∷ xs)) ≡ line_d xs
unfolding line_with pushed_all pushed no_numbers line_d
same_d [] h = absurd (omega arith)
same_d (a ∷ []) h = absurd (omega arith)
same_d (a ∷ b ∷ []) h = refl
same_d (a ∷ b ∷ c ∷ xs) h = absurd (omega arith)

same_l : (xs : List ℕ) → length xs ≡ 6 → line_with L (pushed_all no_numbers (0 ∷ xs)) ≡ line_l xs
unfolding line_with pushed_all pushed no_numbers line_l
same_l [] h = absurd (omega arith)
same_l (a ∷ []) h = absurd (omega arith)
same_l (a ∷ b ∷ []) h = absurd (omega arith)
same_l (a ∷ b ∷ c ∷ []) h = absurd (omega arith)
same_l (a ∷ b ∷ c ∷ d ∷ []) h = absurd (omega arith)
same_l (a ∷ b ∷ c ∷ d ∷ e ∷ []) h = absurd (omega arith)
same_l (a ∷ b ∷ c ∷ d ∷ e ∷ f ∷ []) h = refl
same_l (a ∷ b ∷ c ∷ d ∷ e ∷ f ∷ g ∷ xs) h = absurd (omega arith)

same_r : (xs : List ℕ) → length xs ≡ 0 → line_with R (pushed_all no_numbers (0 ∷ xs)) ≡ line_r xs
unfolding line_with pushed_all pushed no_numbers line_r
same_r xs h = refl

starts_at : (k : Letter) (c : ℕ) → letter_of c ≡ Some k → (b : List ℕ) → Starts c b
unfolding count_of forms_from form_of second_form by_letter
starts_at N c is b = starts_with N (10 ∷ 10 ∷ 10 ∷ 10 ∷ []) line_n same_n (λ fs. refl) c is 4 b refl refl
starts_at C c is b = starts_with C (10 ∷ 8 ∷ []) line_c same_c (λ fs. refl) c is 2 b refl refl
starts_at P c is b = starts_with P (10 ∷ 16 ∷ []) line_p same_p (λ fs. refl) c is 2 b refl refl
starts_at T c is b = starts_with T (10 ∷ []) line_t same_t (λ fs. refl) c is 1 b refl refl
starts_at D c is b = starts_with D (10 ∷ 10 ∷ []) line_d same_d (λ fs. refl) c is 2 b refl refl
starts_at L c is b = starts_with L (10 ∷ 10 ∷ 10 ∷ 10 ∷ 10 ∷ 10 ∷ []) line_l same_l (λ fs. refl) c is 6 b refl refl
starts_at R c is b = starts_with R [] line_r same_r (λ fs. refl) c is 0 b refl refl

-- a byte that is no letter of a line
no_line : (c : ℕ) → letter_of c ≡ None → (fs : List (List ℕ)) → line_of_fields (in_front c fs) ≡ None
unfolding line_of_fields in_front letter letter_of
no_line c e [] = refl
no_line c e ([] ∷ fs) = ap (option_and_then (λ l. by_letter l fs)) e
no_line c e ((d ∷ g) ∷ fs) = refl

starts_other : (c : ℕ) → letter_of c ≡ None → (b : List ℕ) → Starts c b
unfolding Starts lettered read
starts_other c e b = rw e (stays_bad b ∙ sym (no_line c e (fields b)))

starts : (c : ℕ) (b : List ℕ) → Starts c b
starts c b = go (letter_of c) refl
  where
    go : (o : Option Letter) → letter_of c ≡ o → Starts c b
    go None e = starts_other c e b
    go (Some k) e = starts_at k c e b

pub reads_lines : ReadsLines
unfolding finished fed_all fed start line_of line_of_fields fields letter letter_of Starts
reads_lines [] = refl
reads_lines (c ∷ b) = go (eqb c TAB) (eqb-true c TAB) (starts c b)
  where
    go : (t : Bool) → (t ≡ true → c ≡ 9) → Starts c b →
        finished (fed_all (read (lettered c)) b) ≡ line_of_fields (cond t ([] ∷ fields b) (in_front c (fields b)))
    go false e h = h
    go true e h = h ∙ rw (e refl) (no_line 9 refl (fields b))
