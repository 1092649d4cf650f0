-- Journals over a list of calls: the lines that the calls at each concentrator wrote, and what a cut leaves of them (PROTOCOL 11.1, 11.16).
use Rattle.std.specs.Prelude.{ℕ, cond, List, [], ◌∷◌, ◌++◌, eqb, leb, length}
use Rattle.calls.specs.Machine.{Machine, Call, opening, delivery, turn, report, restore, recording, place, words}
use Rattle.agreement.specs.Moments.{Within}

-- A moment is the calls up to it, newest first. A journal is its lines, newest first; a line stands for the moment right after the call that
-- wrote it.
abbrev pub Moment : Machine → Type 0
Moment M = List (Call M)

abbrev pub Journal : Machine → Type 0
Journal M = List (List (Call M))

module _ (M : Machine) where
  -- the bytes of a line
  abbrev pub line : Call M → List ℕ
  line (opening p o) = M.opening_line_lem o
  line (delivery p m b) = M.delivery_line_lem m b
  line (turn p l) = M.turn_line_lem
  line (report p r) = []
  line (restore p v r) = []
  line (recording p x) = M.recording_line_lem x

  abbrev pub newest : Moment M → List ℕ
  newest [] = []
  newest (c ∷ cs) = line c

  -- the bytes of a journal, the oldest line first
  unfoldable pub bytes : Journal M → List ℕ
  bytes [] = []
  bytes (d ∷ js) = bytes js ++ newest d

  -- the lines that stand complete in the first k bytes of a journal
  unfoldable pub complete : ℕ → Journal M → Journal M
  complete k [] = []
  complete k (d ∷ js) = cond (leb (length (bytes (d ∷ js))) k) (d ∷ js) (complete k js)

  -- the journal after a call there, at the words w; `here` is the moment after it. One line for each accepted opening and delivery and each turn
  -- that acts ..
  abbrev pub wrote : Call M → M.Words → Moment M → Journal M → Journal M
  -- .. a new journal with each opening ..
  wrote (opening p o) w here js = cond (M.opens w o) (here ∷ []) js
  wrote (delivery p m b) w here js = cond (M.accepts w m b) (here ∷ js) js
  wrote (turn p l) w here js = cond (M.acts w l) (here ∷ js) js
  wrote (report p r) w here js = js
  -- .. after a restore the complete lines that it read: what comes next is written behind them ..
  wrote (restore p v r) w here js = cond (M.restores v r) (complete (length (M.text r)) js) js
  -- .. and one line for each accepted recording, repeats included (PROTOCOL 9.23)
  wrote (recording p x) w here js = cond (M.records w x) (here ∷ js) js

module _ (M : Machine) (start : ℕ → M.Words) where
  -- the journal that the calls at q wrote
  unfoldable pub journal : List (Call M) → ℕ → Journal M
  journal [] q = []
  journal (c ∷ cs) q = cond (eqb q (place M c)) (wrote M c (words M start cs q) (c ∷ cs) (journal cs q)) (journal cs q)

-- the line of d stands in a journal
pub record Stands (M : Machine) (d : Moment M) (js : Journal M) : Type 0 where
  pub older : Journal M
  pub within : Within (d ∷ older) js
