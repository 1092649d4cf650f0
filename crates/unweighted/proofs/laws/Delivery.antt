-- A delivery to words in which all weights are 1.
use Prim.Native.Nat.{ℕ}
use Rattle.std.specs.Prelude.{Bool, ◌&&◌, not, ◌≡◌, eqb, drop, Result, Ok, Err}
use Rattle.std.proofs.Math.Bool.{cond}
use mathlib.Core.List.{List}
use Rattle.std.proofs.Math.Path.{refl, ap}
use Rattle.std.proofs.Common.{◌∙◌}
use Rattle.settings.specs.declared.refusal.Refusal.TheVariants as refusal
use Rattle.records.specs.Layout.{n_at}
use Rattle.records.specs.Words.{word}
use Rattle.records.specs.Records.{closed, version}
use Rattle.session.specs.Session.{session_with, session_of}
use Rattle.session.specs.Session as weighted_session
use Rattle.records.specs.Writing.{with_est, with_one_first, with_finish, with_decision}
use Rattle.wire.specs.Reading.{read_message}
use Rattle.wire.specs.declared.Message.{Message}
use Rattle.wire.specs.declared.Message.TheVariants as message
use Rattle.delivery.specs.Delivery.{judged, answer_of}
use Rattle.delivery.specs.Delivery as weighted
use Rattle.unweighted.specs.Settings.{Settings}
use Rattle.unweighted.specs.Session.{session_number}
use Rattle.unweighted.specs.Votes.{one_alone, finish_decides}
use Rattle.unweighted.specs.Delivery.{verdict, first_noted, finish_settled, recorded, words_after, deliver_answer, delivered}
use Rattle.unweighted.specs.Statement.{AllOne}
use Rattle.unweighted.proofs.laws.Session.{stored_ones, plain_same, state_same}
use Rattle.unweighted.proofs.laws.Votes.{one_alone_same, finish_decides_same}
use Rattle.settings.specs.declared.refusal.Refusal.{Refusal}

module _ (s : List ℕ) (all : AllOne s) (link : ℕ) (b : List ℕ) where
  abbrev judge : Bool → Result Message Refusal
  judge t = cond (not t) (Err refusal.NoState) (cond (closed s) (Err refusal.Closed) (judged s link (read_message (version s) (word s n_at) (session_number s) link b)))

  verdict_same : weighted.verdict s link b ≡ verdict s link b
  unfolding weighted.verdict verdict session_of session_with weighted_session.settings_of session_number
  verdict_same = ap (λ (t : Bool). judge t) (state_same s all)

  pub deliver_answer_same : weighted.deliver_answer s link b ≡ deliver_answer s link b
  unfolding weighted.deliver_answer deliver_answer
  deliver_answer_same = ap answer_of verdict_same

  noted_same : (p i r c : ℕ) → weighted.first_noted (weighted_session.settings_of s) (with_est s i r c p) i r c ≡ first_noted s (with_est s i r c p) i r c
  unfolding weighted.first_noted first_noted
  noted_same p i r c =
      let u : List ℕ = with_est s i r c p in
      ap (λ (d : Bool). cond (eqb c 1 && d) (with_one_first u i r) u)
      (one_alone_same (weighted_session.settings_of s) (stored_ones s all) u i r ∙ ap (λ (g : Settings). one_alone g u i r) (plain_same s all))

  settled_same : (p i c : ℕ) → weighted.finish_settled (weighted_session.settings_of s) (with_finish s i c p) i c ≡ finish_settled s (with_finish s i c p) i c
  unfolding weighted.finish_settled finish_settled
  settled_same p i c =
      let u : List ℕ = with_finish s i c p in
      ap (λ (d : Bool). cond d (with_decision u i c) u)
      (finish_decides_same (weighted_session.settings_of s) (stored_ones s all) u i c ∙ ap (λ (g : Settings). finish_decides g u i c) (plain_same s all))

  recorded_same : (m : Message) (v : List ℕ) → weighted.recorded s link m v ≡ recorded s link m v
  unfolding recorded weighted.recorded
  recorded_same (message.Send i x) v = refl
  recorded_same (message.Echo i x) v = refl
  recorded_same (message.Ready i x) v = refl
  recorded_same (message.Est i r c) v = noted_same link i r c
  recorded_same (message.Aux i r c) v = refl
  recorded_same (message.Commit k) v = refl
  recorded_same (message.Finish i c) v = settled_same link i c

  after_same : (v : Result Message Refusal) → weighted.words_after v s link b ≡ words_after v s link b
  unfolding weighted.words_after words_after
  after_same (Err k) = refl
  after_same (Ok m) = recorded_same m (drop 12 b)

  pub delivered_same : weighted.delivered s link b ≡ delivered s link b
  unfolding weighted.delivered delivered
  delivered_same = after_same (weighted.verdict s link b) ∙ ap (λ (v : Result Message Refusal). words_after v s link b) verdict_same
