-- The proof of `Secret`: boxes that differ in coins only stay so, and what is unsealed once is unsealed at the end, so that a bit that was told
-- is one in which they agree.
use Rattle.std.specs.Prelude.{ℕ, ◌≤◌, ◌<◌, Bool, cond, ◌⊎◌, ◌≢◌, ◌≡◌, length, Option, Some, None, Result, Ok, Err}
use Rattle.std.proofs.Math.Bool.{true, false}
use Rattle.std.proofs.lemmas.Bool.{false≢true}
use mathlib.Core.List.{List, [], ◌∷◌}
use Rattle.std.proofs.Common.{inl, inr, ◌∙◌, arith}
use Rattle.std.proofs.Math.Path.{refl, sym, ap}
use Rattle.std.proofs.Math.Decide.{dec_le}
use Rattle.settings.specs.declared.refusal.Refusal.TheVariants as refusal
use Rattle.settings.specs.Settings.{round_limit}
use Rattle.quorum.specs.Marks.{mark, with_mark}
use Rattle.records.specs.Layout.{n_at, ta_at, ts_at, coin_at}
use Rattle.records.specs.Words.{word, put, marked, set_mark}
use Rattle.records.specs.laws.Words.{length_put, put_alike}
use Rattle.records.specs.Records.{coin}
use Rattle.settings.specs.declared.refusal.Refusal.{Refusal}
use Rattle.coin_box.specs.Box.{box_weights_at, requests_at, box_open_words, is_box, asks, requested, unsealed, request_words, request_reply, Request, after, replies, coin_of, Secret}
use Rattle.coin_box.proofs.laws.Opened.{first_length, first_other, first_coin, accepted_few, opened_words_lem}
use Rattle.coin_box.proofs.laws.Box.{Asked, asked, coin_stays, unsealed_stays}

-- ---- boxes that differ in coins only

record Alike (s t : List ℕ) : Type 0 where
  size : length s ≡ length t
  same : (k : ℕ) → (k < 8) ⊎ (24 ≤ k) → word s k ≡ word t k

module _ (s t : List ℕ) (x : Alike s t) (p i r : ℕ) where
  alike_asks : asks s p i r ≡ asks t p i r
  unfolding asks is_box
  alike_asks =
      rw (x.size, x.same n_at (inl (omega arith)), x.same ta_at (inl (omega arith)), x.same ts_at (inl (omega arith)), x.same box_weights_at (inl (omega arith)))

  alike_set : 1 ≤ i → Alike (set_mark s (requests_at i r) p) (set_mark t (requests_at i r) p)
  unfolding set_mark
  alike_set lo =
      let k = requests_at i r in
      let e : word s (requests_at i r) ≡ word t (requests_at i r) = x.same (requests_at i r) (inr (omega arith)) in
      record {
        size = length_put s _ _ ∙ x.size ∙ sym (length_put t _ _);
        same = λ j side. put_alike s t k (with_mark (word s k) p) j x.size (x.same j side) ∙ ap (λ (z : ℕ). word (put t k (with_mark z p)) j) e;
      }

  alike_next : Alike (request_words s p i r) (request_words t p i r)
  unfolding request_words
  alike_next = rw (← alike_asks) (at (asks s p i r) refl)
    where
      at : (b : Bool) → asks s p i r ≡ b → Alike (cond b (set_mark s (requests_at i r) p) s) (cond b (set_mark t (requests_at i r) p) t)
      at true e = alike_set (asked s p i r e).vote_low
      at false e = x

alike_unsealed : (s t : List ℕ) → Alike s t → (i r : ℕ) → 1 ≤ i → unsealed s i r ≡ unsealed t i r
unfolding unsealed requested marked
alike_unsealed s t x i r lo =
    rw (x.same n_at (inl (omega arith)), x.same ta_at (inl (omega arith)), x.same box_weights_at (inl (omega arith)), x.same (requests_at i r) (inr (omega arith)))

-- ---- the answers

-- one answer is alike where the boxes agree in a bit that is told
reply_alike : (s t : List ℕ) → Alike s t → (p i r : ℕ) → (Asked s p i r → unsealed (request_words s p i r) i r ≡ true → coin s i r ≡ coin t i r) → request_reply s p i r ≡ request_reply t p i r
unfolding request_reply
reply_alike s t x p i r h = rw (← alike_asks s t x p i r) (at (asks s p i r) refl)
  where
    shown : (b : Bool) → (b ≡ true → coin s i r ≡ coin t i r) → ◌≡◌ {A = Result (Option Bool) Refusal} (cond b (Ok (Some (coin s i r))) (Ok None)) (cond b (Ok (Some (coin t i r))) (Ok None))
    shown true g = ap (λ (b : Bool). Ok (Some b)) (g refl)
    shown false g = refl

    at : (b : Bool) → asks s p i r ≡ b → ◌≡◌ {A = Result (Option Bool) Refusal} (cond b (cond (unsealed (request_words s p i r) i r) (Ok (Some (coin s i r))) (Ok None)) (Err refusal.Coin)) (cond b (cond (unsealed (request_words t p i r) i r) (Ok (Some (coin t i r))) (Ok None)) (Err refusal.Coin))
    at true e =
        let k = asked s p i r e in
        rw (← alike_unsealed _ _ (alike_next s t x p i r) i r k.vote_low) (shown (unsealed (request_words s p i r) i r) (h k))
    at false e = refl

coin_after : (s : List ℕ) (qs : List Request) (i r : ℕ) → i ≤ 16 → coin (after s qs) i r ≡ coin s i r
unfolding after
coin_after s [] i r l = refl
coin_after s (q ∷ qs) i r l = coin_stays (after s qs) q.requester q.vote q.round i r l ∙ coin_after s qs i r l

module _ (s t : List ℕ) (x : Alike s t) where
  alike_after : (qs : List Request) → Alike (after s qs) (after t qs)
  unfolding after
  alike_after [] = x
  alike_after (q ∷ qs) = alike_next (after s qs) (after t qs) (alike_after qs) q.requester q.vote q.round

  -- the coins that differ are sealed after the requests, so they were sealed at each
  same_replies : (qs : List Request) → ((i r : ℕ) → 1 ≤ i → i ≤ 16 → 1 ≤ r → r ≤ round_limit → unsealed (after s qs) i r ≡ true → coin s i r ≡ coin t i r) → replies s qs ≡ replies t qs
  unfolding after replies
  same_replies [] h = refl
  same_replies (q ∷ qs) h =
      let p = q.requester in
      let i = q.vote in
      let r = q.round in
      let now = reply_alike (after s qs) (after t qs) (alike_after qs) p i r agree in
      let before = same_replies qs (λ j m a b c d e. h j m a b c d (unsealed_stays (after s qs) p i r j m e)) in
      ap (λ (y : Result (Option Bool) Refusal). y ∷ replies s qs) now ∙ ap (λ (ys : List (Result (Option Bool) Refusal)). request_reply (after t qs) p i r ∷ ys) before
    where
      agree : Asked (after s qs) q.requester q.vote q.round → unsealed (request_words (after s qs) q.requester q.vote q.round) q.vote q.round ≡ true → coin (after s qs) q.vote q.round ≡ coin (after t qs) q.vote q.round
      agree k e =
          let few : q.vote ≤ 16 = omega (arith, k.vote_high, k.few) in
          coin_after s qs _ _ few ∙ h _ _ k.vote_low few k.round_low k.round_high e ∙ sym (coin_after t qs _ _ few)

-- ---- after an opening

module _ (n ta ts w : ℕ) (few : n ≤ 16) where
  first_alike : (a b : List ℕ) → Alike (box_open_words n ta ts w a) (box_open_words n ta ts w b)
  first_alike a b = record { size = first_length n ta ts w a ∙ sym (first_length n ta ts w b); same = at }
    where
      at : (k : ℕ) → (k < 8) ⊎ (24 ≤ k) → word (box_open_words n ta ts w a) k ≡ word (box_open_words n ta ts w b) k
      at k (inl l) = first_other n ta ts w a k (λ j lo hi z. omega arith) ∙ sym (first_other n ta ts w b k (λ j lo hi z. omega arith))
      at k (inr l) = first_other n ta ts w a k (λ j lo hi z. omega arith) ∙ sym (first_other n ta ts w b k (λ j lo hi z. omega arith))

  -- there are no coins above n
  spare_coin : (a b : List ℕ) (i r : ℕ) → n < i → coin (box_open_words n ta ts w a) i r ≡ coin (box_open_words n ta ts w b) i r
  unfolding coin marked
  spare_coin a b i r l =
      ap (λ (z : ℕ). mark z r) (first_other n ta ts w a (coin_at i) (λ j lo hi z. omega arith) ∙ sym (first_other n ta ts w b (coin_at i) (λ j lo hi z. omega arith)))

pub secret : Secret
unfolding Secret
secret n ta ts w s t a b ea eb qs h =
    rw (opened_words_lem s n ta ts w a ea, opened_words_lem t n ta ts w b eb)
    (same_replies (box_open_words n ta ts w a) (box_open_words n ta ts w b) (first_alike n ta ts w few a b) qs equal)
  where
    few : n ≤ 16
    few = accepted_few (length s) n ta ts w (length a) ea

    equal : (i r : ℕ) → 1 ≤ i → i ≤ 16 → 1 ≤ r → r ≤ round_limit → unsealed (after (box_open_words n ta ts w a) qs) i r ≡ true → coin (box_open_words n ta ts w a) i r ≡ coin (box_open_words n ta ts w b) i r
    equal i r lo hi begun last e = at (dec_le i n)
      where
        sealed : i ≤ n → coin_of a i r ≢ coin_of b i r → ⊥
        sealed l ne = false≢true (sym (rw (opened_words_lem s n ta ts w a ea) at (h i r lo l begun last ne)) ∙ e)

        bits : i ≤ n → (x y : Bool) → coin_of a i r ≡ x → coin_of b i r ≡ y → x ≡ y
        bits l true true f g = refl
        bits l false false f g = refl
        bits l true false f g = absurd (sealed l (λ z. false≢true (sym g ∙ sym z ∙ f)))
        bits l false true f g = absurd (sealed l (λ z. false≢true (sym f ∙ z ∙ g)))

        at : Dec (i ≤ n) → coin (box_open_words n ta ts w a) i r ≡ coin (box_open_words n ta ts w b) i r
        at (yes l) = first_coin n ta ts w few a i r lo l ∙ bits l (coin_of a i r) (coin_of b i r) refl refl ∙ sym (first_coin n ta ts w few b i r lo l)
        at (no l) = spare_coin n ta ts w few a b i r (omega arith)
