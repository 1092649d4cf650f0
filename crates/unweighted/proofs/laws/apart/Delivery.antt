-- A delivery neither reads nor writes the word of the weights: on any words s, whatever x stands there.
use Rattle.std.specs.Prelude.{ℕ, Bool, not, cond, List, ◌≡◌, drop, Result, Ok, Err}
use Rattle.std.proofs.Math.Bool.{true, false}
use Rattle.std.proofs.Math.Path.{refl, ap}
use Rattle.std.proofs.Common.{◌∙◌, arith}
use Rattle.settings.specs.declared.refusal.Refusal.TheVariants as refusal
use Rattle.records.specs.Layout.{n_at, weights_at}
use Rattle.records.specs.Words.{word, put}
use Rattle.records.specs.Records.{closed, version}
use Rattle.wire.specs.Reading.{read_message}
use Rattle.wire.specs.declared.Message.{Message}
use Rattle.wire.specs.declared.Message.TheVariants as message
use Rattle.wire_laws.proofs.Converse.{taken_form}
use Rattle.delivery.specs.Delivery.{place_held, judged, answer_of}
use Rattle.delivery.specs.laws.Frame.{InLayout}
use Rattle.delivery.specs.laws.Kept.{in_layout_lem}
use Rattle.unweighted.specs.Session.{session_number, is_state}
use Rattle.unweighted.specs.Delivery.{verdict, words_after, deliver_answer, delivered}
use Rattle.unweighted.proofs.laws.apart.Records.{word_apart, version_apart, closed_apart, finish_held_apart, send_held_apart, echo_held_apart, ready_held_apart, est_held_apart, aux_held_apart, commit_held_apart}
use Rattle.unweighted.proofs.laws.apart.Stores.{recorded_apart}
use Rattle.unweighted.proofs.laws.apart.Session.{number_apart, state_apart, state_held, few_held}
use Rattle.settings.specs.declared.refusal.Refusal.{Refusal}

module _ (s : List ℕ) (x link : ℕ) (b : List ℕ) where
  abbrev t : List ℕ
  t = put s weights_at x

  place_apart : (m : Message) → InLayout link m → place_held t link m ≡ place_held s link m
  unfolding place_held
  place_apart (message.Send i v) l = send_held_apart s x i
  place_apart (message.Echo i v) l = rw (echo_held_apart s x i l.3)
  place_apart (message.Ready i v) l = rw (ready_held_apart s x i l.3)
  place_apart (message.Est i r v) l = rw (est_held_apart s x i r v)
  place_apart (message.Aux i r v) l = rw (aux_held_apart s x i r 0, aux_held_apart s x i r 1)
  place_apart (message.Commit k) l = commit_held_apart s x link l.1
  place_apart (message.Finish i v) l = rw (finish_held_apart s x i 0, finish_held_apart s x i 1)

  abbrev read : Result Message Refusal
  read = read_message (version s) (word s n_at) (session_number s) link b

  laid : is_state s ≡ true → (m : Message) → read ≡ Ok m → InLayout link m
  laid e m f =
      let form = taken_form (version s) (word s n_at) (session_number s) link b m f in
      in_layout_lem (word s n_at) link m (few_held s e) form.link_low form.link_high form.layout

  verdict_apart : verdict t link b ≡ verdict s link b
  unfolding verdict judged
  verdict_apart =
      rw (state_apart s x, closed_apart s x, version_apart s x, word_apart s x n_at (λ e. omega arith), number_apart s x)
      (at (is_state s) refl)
    where
      of : is_state s ≡ true → (y : Result Message Refusal) → read ≡ y → judged t link y ≡ judged s link y
      of e (Err k) f = refl
      of e (Ok m) f = rw (place_apart m (laid e m f))

      at : (c : Bool) → is_state s ≡ c → cond (not c) (Err refusal.NoState) (cond (closed s) (Err refusal.Closed) (judged t link read)) ≡ cond (not c) (Err refusal.NoState) (cond (closed s) (Err refusal.Closed) (judged s link read))
      at true e = ap (λ (v : Result Message Refusal). cond (closed s) (Err refusal.Closed) v) (of e read refl)
      at false e = refl

  pub deliver_answer_apart : deliver_answer t link b ≡ deliver_answer s link b
  unfolding deliver_answer
  deliver_answer_apart = ap answer_of verdict_apart

  words_apart : words_after (verdict s link b) t link b ≡ put (words_after (verdict s link b) s link b) weights_at x
  unfolding verdict judged words_after
  words_apart = at (is_state s) refl (closed s)
    where
      place : is_state s ≡ true → (m : Message) → InLayout link m → (p : Bool) → words_after (cond p (Err refusal.Held) (Ok m)) t link b ≡ put (words_after (cond p (Err refusal.Held) (Ok m)) s link b) weights_at x
      place e m l true = refl
      place e m l false = recorded_apart x s (drop 12 b) link m (state_held s e).few l

      of : is_state s ≡ true → (y : Result Message Refusal) → read ≡ y → words_after (judged s link y) t link b ≡ put (words_after (judged s link y) s link b) weights_at x
      of e (Err k) f = refl
      of e (Ok m) f = place e m (laid e m f) (place_held s link m)

      judge : Bool → Bool → Result Message Refusal
      judge c d = cond (not c) (Err refusal.NoState) (cond d (Err refusal.Closed) (judged s link read))

      at : (c : Bool) → is_state s ≡ c → (d : Bool) → words_after (judge c d) t link b ≡ put (words_after (judge c d) s link b) weights_at x
      at true e true = refl
      at true e false = of e read refl
      at false e d = refl

  pub delivered_apart : delivered t link b ≡ put (delivered s link b) weights_at x
  unfolding delivered
  delivered_apart = ap (λ (v : Result Message Refusal). words_after v t link b) verdict_apart ∙ words_apart
