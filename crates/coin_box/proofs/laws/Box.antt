-- What a request changes, what it keeps, and when its answer is the bit.
use Rattle.std.specs.Prelude.{ℕ, ◌-◌, ◌^◌, ◌≤◌, ◌<◌, Bool, ◌&&◌, cond, List, ◌≢◌, ◌≡◌, length, eqb, leb, Some, None, Ok}
use Rattle.std.proofs.Math.Bool.{true, false}
use Rattle.std.proofs.Math.Path.{refl, ap}
use Rattle.std.proofs.Common.{sym, ◌∙◌, arith}
use Rattle.std.proofs.Math.Decide.{dec_lt, ℕ_discrete}
use Rattle.std.proofs.lemmas.List.{set-get_or}
use borrow.Author.Tests.{leb-true, lt-ltb, le-ltb, ltb-true, eqb-true}
use Rattle.settings.specs.Settings.{valid_settings, round_limit}
use Rattle.settings.specs.laws.Rules.{valid_rules}
use Rattle.quorum.specs.laws.Bools.{and_left, and_right}
use Rattle.quorum.specs.Marks.{mark, with_mark}
use Rattle.quorum.specs.laws.Marks.{mark_other, with_set}
use Rattle.quorum.specs.Total.{count}
use Rattle.quorum.specs.laws.Total.{total_mono}
use Rattle.quorum.specs.Weights.{weight_of}
use Rattle.quorum.specs.laws.Whole.{ones_count}
use Rattle.records.specs.Layout.{n_at, ta_at, ts_at, coin_at}
use Rattle.records.specs.Words.{word, put, marked, set_mark}
use Rattle.records.specs.laws.Words.{word_put_same, word_put_other, put_past_end, length_set_mark, word_set_mark_other, marked_new, marked_kept}
use Rattle.records.specs.Records.{coin}
use Rattle.session.specs.Session.{numbered}
use Rattle.coin_box.specs.Box.{box_words, box_weights_at, requests_at, is_box, asks, requested, unsealed, request_words, request_reply}

-- what a request within the layout tells
pub record Asked (s : List ℕ) (p i r : ℕ) : Type 0 where
  pub size : length s ≡ box_words
  pub few : word s n_at ≤ 16
  pub requester_low : 1 ≤ p
  pub requester_high : p ≤ word s n_at
  pub vote_low : 1 ≤ i
  pub vote_high : i ≤ word s n_at
  pub round_low : 1 ≤ r
  pub round_high : r ≤ round_limit

numbered_within : (n k : ℕ) → numbered n k ≡ true → (1 ≤ k) × (k ≤ n)
unfolding numbered
numbered_within n k e = (leb-true 1 k (and_left (leb 1 k) (leb k n) e), leb-true k n (and_right (leb 1 k) (leb k n) e))

pub asked : (s : List ℕ) (p i r : ℕ) → asks s p i r ≡ true → Asked s p i r
unfolding asks is_box
asked s p i r e =
    let n = word s n_at in
    let sized = eqb (length s) box_words in
    let valid = valid_settings n (word s ta_at) (word s ts_at) (word s box_weights_at) in
    let a = and_left ((sized && valid) && numbered n p && numbered n i) (numbered round_limit r) e in
    let b = and_left ((sized && valid) && numbered n p) (numbered n i) a in
    let c = and_left (sized && valid) (numbered n p) b in
    let who = numbered_within n p (and_right (sized && valid) (numbered n p) b) in
    let vote = numbered_within n i (and_right ((sized && valid) && numbered n p) (numbered n i) a) in
    let round = numbered_within round_limit r (and_right ((sized && valid) && numbered n p && numbered n i) (numbered round_limit r) e) in
    record {
      size = eqb-true (length s) box_words (and_left sized valid c);
      few = (valid_rules n (word s ta_at) (word s ts_at) (word s box_weights_at) (and_right sized valid c)).few;
      requester_low = who.0;
      requester_high = who.1;
      vote_low = vote.0;
      vote_high = vote.1;
      round_low = round.0;
      round_high = round.1;
    }

marked_other : (s : List ℕ) (j p k q : ℕ) → q ≢ p → marked (set_mark s j p) k q ≡ marked s k q
unfolding marked set_mark
marked_other s j p k q ne = at (ℕ_discrete k j) (dec_lt j (length s))
  where
    x : ℕ
    x = with_mark (word s j) p

    at : Dec (k ≡ j) → Dec (j < length s) → mark (word (put s j x) k) q ≡ mark (word s k) q
    at (no apart) d = ap (λ (w : ℕ). mark w q) (word_put_other s j x k apart)
    at (yes same) (no past) = ap (λ (t : List ℕ). mark (word t k) q) (sym (put_past_end s j x (omega arith)))
    at (yes same) (yes within) = rw same (ap (λ (w : ℕ). mark w q) (word_put_same s j x within) ∙ mark_other (word s j) p q ne)

marked_same : (s : List ℕ) (j p : ℕ) → marked s j p ≡ true → set_mark s j p ≡ s
unfolding set_mark marked put word
marked_same s j p h = rw (with_set (word s j) p h) (set-get_or s j 0)

module _ (s : List ℕ) (p i r : ℕ) where
  abbrev next : List ℕ
  next = request_words s p i r

  -- a request is refused, or sets one mark
  by_cases : (P : List ℕ → Type 0) → P s → (asks s p i r ≡ true → P (set_mark s (requests_at i r) p)) → P next
  unfolding request_words
  by_cases P kept set = at (asks s p i r) refl
    where
      at : (b : Bool) → asks s p i r ≡ b → P (cond b (set_mark s (requests_at i r) p) s)
      at true e = set e
      at false e = kept

  pub request_length : length next ≡ length s
  request_length = by_cases (λ t. length t ≡ length s) refl (λ e. length_set_mark s (requests_at i r) p)

  -- it changes no word but the one of its vote and round
  pub request_other : (k : ℕ) → k ≢ requests_at i r → word next k ≡ word s k
  request_other k ne = by_cases (λ t. word t k ≡ word s k) refl (λ e. word_set_mark_other s (requests_at i r) p k ne)

  -- settings and coins stay
  pub request_low : (k : ℕ) → k < 40 → word next k ≡ word s k
  request_low k l =
      by_cases (λ t. word t k ≡ word s k) refl
      (λ e. let a = asked s p i r e in word_set_mark_other s (requests_at i r) p k (λ z. omega (arith, a.vote_low, a.round_low)))

  pub coin_stays : (j q : ℕ) → j ≤ 16 → coin next j q ≡ coin s j q
  unfolding coin marked
  coin_stays j q l = ap (λ (x : ℕ). mark x q) (request_low (coin_at j) (omega arith))

  -- no other requester's mark changes
  pub request_mark : (k q : ℕ) → q ≢ p → marked next k q ≡ marked s k q
  request_mark k q ne = by_cases (λ t. marked t k q ≡ marked s k q) refl (λ e. marked_other s (requests_at i r) p k q ne)

  pub mark_stays : (k q : ℕ) → marked s k q ≡ true → marked next k q ≡ true
  mark_stays k q h = by_cases (λ t. marked t k q ≡ true) h (λ e. marked_kept s (requests_at i r) p k q h)

  -- what is unsealed stays so, whatever is requested (PROTOCOL 12.6)
  pub unsealed_stays : (j q : ℕ) → unsealed s j q ≡ true → unsealed next j q ≡ true
  unfolding unsealed requested
  unsealed_stays j q e =
      let n = word s n_at in
      let ta = word s ta_at in
      let w = word s box_weights_at in
      let grown = total_mono (weight_of w) (λ m. marked s (requests_at j q) m) (λ m. marked next (requests_at j q) m) n (λ m a b h. mark_stays (requests_at j q) m h) in
      rw (request_low n_at (omega arith), request_low ta_at (omega arith), request_low box_weights_at (omega arith))
      (lt-ltb ta _ (omega (arith, ltb-true ta _ e, grown)))

  module _ (e : asks s p i r ≡ true) where
    pub noted : next ≡ set_mark s (requests_at i r) p
    unfolding request_words
    noted = rw e

    -- the requester is marked
    pub request_marked : marked next (requests_at i r) p ≡ true
    request_marked =
        let a = asked s p i r e in
        ap (λ (t : List ℕ). marked t (requests_at i r) p) noted
        ∙ marked_new s (requests_at i r) p (omega (arith, a.size, a.few, a.vote_high, a.round_high)) a.requester_low (omega (arith, a.few, a.requester_high))

    -- the answer is `sealed` exactly while the weight is at most ta, and the bit from then on
    pub answer_sealed : requested next i r ≤ word s ta_at → request_reply s p i r ≡ Ok None
    unfolding request_reply unsealed
    answer_sealed l = rw (e, request_low ta_at (omega arith), le-ltb (word s ta_at) (requested next i r) l)

    pub answer_bit : word s ta_at < requested next i r → request_reply s p i r ≡ Ok (Some (coin s i r))
    unfolding request_reply unsealed
    answer_bit l = rw (e, request_low ta_at (omega arith), lt-ltb (word s ta_at) (requested next i r) l)

  pub refused_kept : asks s p i r ≡ false → next ≡ s
  unfolding request_words
  refused_kept e = rw e

  -- asking again adds nothing: one who has its mark changes nothing (PROTOCOL 12.5)
  pub repeat_kept : marked s (requests_at i r) p ≡ true → next ≡ s
  repeat_kept h = by_cases (λ t. t ≡ s) refl (λ e. marked_same s (requests_at i r) p h)

-- .. so that a request made again changes nothing
pub repeat_same : (s : List ℕ) (p i r : ℕ) → request_words (request_words s p i r) p i r ≡ request_words s p i r
repeat_same s p i r = at (asks s p i r) refl
  where
    at : (b : Bool) → asks s p i r ≡ b → request_words (request_words s p i r) p i r ≡ request_words s p i r
    at true e = repeat_kept (request_words s p i r) p i r (request_marked s p i r e)
    at false e = ap (λ (t : List ℕ). request_words t p i r) (refused_kept s p i r e)

-- where each weighs 1 it is the number of requesters
pub requested_ones : (s : List ℕ) (i r : ℕ) → word s n_at ≤ 16 → word s box_weights_at ≡ 2 ^ word s n_at - 1 → requested s i r ≡ count (λ p. marked s (requests_at i r) p) (word s n_at)
unfolding requested
requested_ones s i r few e = rw e (ones_count (word s n_at) (λ p. marked s (requests_at i r) p) few)
