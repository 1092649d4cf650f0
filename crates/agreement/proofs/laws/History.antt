-- Induction over lawful histories.
use Rattle.std.specs.Prelude.{ℕ, [], ◌∷◌}
use Rattle.std.proofs.Common.{inl, inr}
use Rattle.agreement.specs.Evidence.{World}
use Rattle.agreement.specs.History.{Act, Event, History, Did, Guard, Lawful}

module _ (W : World) (G : ℕ → Act → Type 0) where
  -- Induction over a history: if each further event keeps Q, and each act a brings it about from its guard and from Q of the earlier acts a,
  -- then Q holds once a was done.
  pub by_history : (a : Act) (Q : History → Type 0) → ((e : Event) (h : History) → Q h → Q (e ∷ h)) → ((h : History) (p : ℕ) → Guard W G h p a → ((m : ℕ) → Did h m a → Q h) → Q h) → (h : History) → Lawful W G h → (p : ℕ) → Did h p a → Q h
  by_history a Q keep step [] law p d = absurd d
  by_history a Q keep step (e ∷ h) law p (inl q) = keep e h (step h p (rw q at law.1) (λ m d. by_history a Q keep step h law.0 m d))
  by_history a Q keep step (e ∷ h) law p (inr d) = keep e h (by_history a Q keep step h law.0 p d)
