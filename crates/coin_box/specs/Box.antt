-- The coin box (PROTOCOL, section 12): its words, its opening, its requests, and what it keeps secret. w are the weights as one word (opening/Given).
--
--     0            n
--     1            ta
--     2            ts
--     3            weights: of the marks p, 16 + p, 32 + p and 48 + p as many are set as p weighs
--     4 to 7       free
--     8 to 23      coin word of each vote
--     24 to 39     free
--     40 to 551    requesters, 32 words for each vote, by round: mark p for requester p
use Rattle.std.specs.Prelude.{ℕ, ◌+◌, ◌*◌, ◌≤◌, Bool, false, ◌&&◌, cond, not, List, [], ◌∷◌, ◌≢◌, ◌≡◌, length, eqb, ltb, Option, Some, None, Result, Ok, Err}
use Rattle.settings.specs.declared.refusal.Refusal.TheVariants as refusal
use Rattle.settings.specs.Settings.{valid_settings, named_ta, round_limit}
use Rattle.quorum.specs.Marks.{mark}
use Rattle.quorum.specs.Weights.{weigh}
use Rattle.records.specs.Layout.{n_at, ta_at, ts_at}
use Rattle.records.specs.Words.{word, put, marked, set_mark}
use Rattle.records.specs.Words.{blank}
use Rattle.records.specs.Records.{coin}
use Rattle.session.specs.Session.{numbered}
use Rattle.opening.specs.Given.{item}
use Rattle.opening.specs.Opening.{with_coins}
use Rattle.std.specs.Result.{is_ok}
use Rattle.settings.specs.declared.refusal.Refusal.{Refusal}

abbrev pub box_words : ℕ
box_words = 552

abbrev pub box_weights_at : ℕ
box_weights_at = 3

abbrev pub requests_at : ℕ → ℕ → ℕ
requests_at i r = 7 + 32 * i + r

-- ---- opening

-- a box refuses another number of words than 552, then the settings that an opening refuses and another number of coin words than n
-- (PROTOCOL 9.28)
unfoldable pub box_open_answer : ℕ → ℕ → ℕ → ℕ → ℕ → ℕ → Result (Unit {0}) Refusal
box_open_answer words n ta ts w coin_words =
    cond (not (eqb words box_words)) (Err refusal.NoState)
    (cond (not (valid_settings n (named_ta n ta ts w) ts w)) (Err refusal.Settings)
    (cond (not (eqb coin_words n)) (Err refusal.Settings)
    (Ok tt)))

unfoldable pub box_settings : List ℕ → ℕ → ℕ → ℕ → ℕ → List ℕ
box_settings s n ta ts w = put (put (put (put s n_at n) ta_at ta) ts_at ts) box_weights_at w

-- what is not given is 0: nobody has requested a coin
unfoldable pub box_open_words : ℕ → ℕ → ℕ → ℕ → List ℕ → List ℕ
box_open_words n ta ts w coins = with_coins (box_settings (blank box_words) n (named_ta n ta ts w) ts w) coins n

-- the words after an opening, accepted or not
unfoldable pub box_opened : List ℕ → ℕ → ℕ → ℕ → ℕ → List ℕ → List ℕ
box_opened s n ta ts w coins =
    cond (is_ok (box_open_answer (length s) n ta ts w (length coins))) (box_open_words n ta ts w coins) s

-- ---- requests: each has a requester, a vote and a round (PROTOCOL 12.4)

-- the word count, and stored settings that opening would take; ta is taken as it is
unfoldable pub is_box : List ℕ → Bool
is_box s = eqb (length s) box_words && valid_settings (word s n_at) (word s ta_at) (word s ts_at) (word s box_weights_at)

-- the words are a box, requester and vote are 1 to n, and the round is 1 to 32 (PROTOCOL 9.30)
unfoldable pub asks : List ℕ → ℕ → ℕ → ℕ → Bool
asks s p i r = is_box s && numbered (word s n_at) p && numbered (word s n_at) i && numbered round_limit r

-- what the requesters of the coin of vote i in round r weigh; asking again adds nothing, since a requester has one mark (PROTOCOL 12.5)
unfoldable pub requested : List ℕ → ℕ → ℕ → ℕ
requested s i r = weigh (word s box_weights_at) (λ p. marked s (requests_at i r) p) (word s n_at)

-- a coin is sealed until its requesters weigh ta + 1; from then on it is unsealed (PROTOCOL 12.6)
unfoldable pub unsealed : List ℕ → ℕ → ℕ → Bool
unsealed s i r = ltb (word s ta_at) (requested s i r)

-- the words after a request, accepted or not
unfoldable pub request_words : List ℕ → ℕ → ℕ → ℕ → List ℕ
request_words s p i r = cond (asks s p i r) (set_mark s (requests_at i r) p) s

-- none while the coin is sealed, and once the requesters weigh enough the bit (PROTOCOL 12.6): the request itself counts, so the one that completes the weight is told
-- the bit
unfoldable pub request_reply : List ℕ → ℕ → ℕ → ℕ → Result (Option Bool) Refusal
request_reply s p i r = cond (asks s p i r) (cond (unsealed (request_words s p i r) i r) (Ok (Some (coin s i r))) (Ok None)) (Err refusal.Coin)

-- ---- requests one after another, newest first

pub record Request : Type 0 where
  pub requester : ℕ
  pub vote : ℕ
  pub round : ℕ

unfoldable pub after : List ℕ → List Request → List ℕ
after s [] = s
after s (q ∷ qs) = request_words (after s qs) q.requester q.vote q.round

unfoldable pub replies : List ℕ → List Request → List (Result (Option Bool) Refusal)
replies s [] = []
replies s (q ∷ qs) = request_reply (after s qs) q.requester q.vote q.round ∷ replies s qs

-- ---- what is kept secret

-- the coin of vote i in round r in the coin words that an opening is given
abbrev pub coin_of : List ℕ → ℕ → ℕ → Bool
coin_of coins i r = mark (item coins i) r

-- no answer depends on a coin that is still sealed (PROTOCOL 12.8): boxes opened alike on any words s and t, but with coin words a and b, which
-- differ only in coins that are sealed after the requests; requests of any kind, refused ones too
unfoldable pub Secret : Type 0
Secret =
    (n ta ts w : ℕ) (s t a b : List ℕ) → box_open_answer (length s) n ta ts w (length a) ≡ Ok tt → box_open_answer (length t) n ta ts w (length b) ≡ Ok tt →
    (qs : List Request) →
    ((i r : ℕ) → 1 ≤ i → i ≤ n → 1 ≤ r → r ≤ round_limit → coin_of a i r ≢ coin_of b i r → unsealed (after (box_opened s n ta ts w a) qs) i r ≡ false) →
    replies (box_opened s n ta ts w a) qs ≡ replies (box_opened t n ta ts w b) qs
