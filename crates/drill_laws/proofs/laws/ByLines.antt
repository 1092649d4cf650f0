-- The drill line by line: its output is that of the lines of its input, taken one after the other.
use Rattle.std.specs.Prelude.{ℕ, Bool, true, false, cond, List, [], ◌∷◌, ◌++◌, ◌≡◌, refl, eqb}
use Rattle.std.proofs.Common.{sym, ap, ◌∙◌}
use Rattle.records.specs.Words.{blank}
use Rattle.drill_lines.specs.Grammar.{line_of}
use Rattle.text.specs.Fields.{LF}
use Rattle.drill_lines.specs.laws.Theorem.{reads_lines}
use Rattle.drill_lines.specs.declared.Reader.{Reader}
use Rattle.drill_core.specs.Judging.{is_bad}
use Rattle.drill_core.specs.Acting.{World, world, taken}
use Rattle.drill_core.specs.Feeding.{start_drill, next_number, next_line, with_byte, Drilling, drilling, settled, ended, fed_byte, fed_bytes, last_line, all_open, at_end, start_drilling}
use Rattle.drill_core.specs.Output.{drill_text, printed, drill_output}
use Rattle.drill_core.specs.declared.State.{State}
use Rattle.drill_core.specs.declared.Drill.{Drill}
use Rattle.drill_laws.specs.ByLines.{began, lines_from, lines_of, Between, after, line_taken, lines_taken, output_after, start_between, ByLines, between}
use Rattle.drill_lines.specs.Automaton as lines

-- a drill that has read the bytes a of a line
unfoldable at : ℕ → State → List ℕ → Drill
at n s a = record { state = s; number = n; begun = began a; reader = lines.fed_all lines.start a }

fed_snoc : (r : Reader) (a : List ℕ) (c : ℕ) → lines.fed_all r (a ++ (c ∷ [])) ≡ lines.fed (lines.fed_all r a) c
unfolding lines.fed_all
fed_snoc r [] c = refl
fed_snoc r (x ∷ a) c = fed_snoc (lines.fed r x) a c

began_snoc : (a : List ℕ) (c : ℕ) → began (a ++ (c ∷ [])) ≡ true
unfolding began
began_snoc [] c = refl
began_snoc (x ∷ a) c = refl

byte_at : (n : ℕ) (s : State) (a : List ℕ) (c : ℕ) → with_byte (at n s a) c ≡ at n s (a ++ (c ∷ []))
unfolding with_byte at
byte_at n s a c = rw (fed_snoc lines.start a c, began_snoc a c)

-- after a line that cannot be taken
fed_bad : (w m : List ℕ) (d : Drill) (b : List ℕ) → is_bad d.state.phase ≡ true → fed_bytes (drilling w m d) b ≡ drilling w m d
unfolding fed_bytes fed_byte
fed_bad w m d [] e = refl
fed_bad w m d (c ∷ b) e = ap (λ (t : Bool). fed_bytes (cond t (drilling w m d) (cond (eqb c 10) (ended (drilling w m d)) (drilling w m (with_byte d c)))) b) e ∙ fed_bad w m d b e

lines_bad : (n : ℕ) (w m : List ℕ) (s : State) (bs : List (List ℕ)) → is_bad s.phase ≡ true → lines_taken (between n (world w m s)) bs ≡ between n (world w m s)
unfolding lines_taken line_taken
lines_bad n w m s [] e = refl
lines_bad n w m s (b ∷ bs) e =
    ap (λ (t : Bool). lines_taken (cond t (between n (world w m s)) (after n (taken (line_of b) (world w m s)))) bs) e ∙ lines_bad n w m s bs e

-- between two lines
settled_output : (n : ℕ) (y : World) → printed (all_open (settled n y)) ≡ output_after (after n y)
unfolding printed all_open settled output_after after drill_text next_line
settled_output n (world w m s) = refl

idle_end : (n : ℕ) (w m : List ℕ) (s : State) → printed (at_end (drilling w m (at n s []))) ≡ output_after (between n (world w m s))
unfolding printed at_end all_open last_line at began output_after drill_text
idle_end n w m s = refl

-- the line is that of its bytes
ended_at : (n : ℕ) (w m : List ℕ) (s : State) (a : List ℕ) → ended (drilling w m (at n s a)) ≡ settled n (taken (line_of a) (world w m s))
unfolding ended at
ended_at n w m s a = ap (λ l. settled n (taken l (world w m s))) (reads_lines a)

-- the rest of an input, once a line is over
Rest : List ℕ → List ℕ → Type 0
Rest b a = (n : ℕ) (w m : List ℕ) (s : State) → is_bad s.phase ≡ false →
    printed (at_end (fed_bytes (drilling w m (at n s a)) b)) ≡ output_after (lines_taken (between n (world w m s)) (lines_from a b))

next_line_lem : (b : List ℕ) (n : ℕ) (y : World) → Rest b [] → printed (at_end (fed_bytes (settled n y) b)) ≡ output_after (lines_taken (after n y) (lines_from [] b))
unfolding settled after next_line Rest at began lines.fed_all
next_line_lem b n (world w m s) r = go (is_bad s.phase) refl
  where
    go : (t : Bool) → is_bad s.phase ≡ t → printed (at_end (fed_bytes (drilling w m (next_line s n)) b)) ≡ output_after (lines_taken (between (next_number s.phase n) (world w m s)) (lines_from [] b))
    go true e =
        ap (λ (x : Drilling). printed (at_end x)) (fed_bad w m (next_line s n) b e)
        ∙ idle_end (next_number s.phase n) w m s
        ∙ ap output_after (sym (lines_bad (next_number s.phase n) w m s (lines_from [] b) e))
    go false e = r (next_number s.phase n) w m s e

-- a line that is taken, where the one before it could be
one_line : (n : ℕ) (w m : List ℕ) (s : State) (a : List ℕ) → is_bad s.phase ≡ false → line_taken (between n (world w m s)) a ≡ after n (taken (line_of a) (world w m s))
unfolding line_taken
one_line n w m s a e = ap (λ (t : Bool). cond t (between n (world w m s)) (after n (taken (line_of a) (world w m s)))) e

still_good : (n : ℕ) (s : State) (a : List ℕ) → is_bad s.phase ≡ false → is_bad (at n s a).state.phase ≡ false
unfolding at
still_good n s a e = e

one_byte : (n : ℕ) (w m : List ℕ) (s : State) (a : List ℕ) (c : ℕ) (t : Bool) → is_bad s.phase ≡ false → eqb c LF ≡ t →
    fed_byte (drilling w m (at n s a)) c ≡ cond t (settled n (taken (line_of a) (world w m s))) (drilling w m (at n s (a ++ (c ∷ []))))
unfolding fed_byte
one_byte n w m s a c t e f =
    ap (λ (z : Bool). cond z (drilling w m (at n s a)) (cond (eqb c LF) (ended (drilling w m (at n s a))) (drilling w m (with_byte (at n s a) c)))) (still_good n s a e)
    ∙ rw (f, ended_at n w m s a, byte_at n s a c)

last_ended : (n : ℕ) (w m : List ℕ) (s : State) (x : ℕ) (a : List ℕ) → last_line (drilling w m (at n s (x ∷ a))) ≡ ended (drilling w m (at n s (x ∷ a)))
unfolding last_line at began
last_ended n w m s x a = refl

last_bytes : (a : List ℕ) → Rest [] a
unfolding Rest fed_bytes lines_from lines_taken began at_end
last_bytes [] n w m s e = idle_end n w m s
last_bytes (x ∷ a) n w m s e =
    ap (λ (y : Drilling). printed (all_open y)) (last_ended n w m s x a ∙ ended_at n w m s (x ∷ a))
    ∙ settled_output n (taken (line_of (x ∷ a)) (world w m s))
    ∙ ap output_after (sym (one_line n w m s (x ∷ a) e))

rest : (b a : List ℕ) → Rest b a
unfolding Rest fed_bytes lines_from lines_taken
rest [] a n w m s e = last_bytes a n w m s e
rest (c ∷ b) a n w m s e = go (eqb c LF) refl (rest b []) (rest b (a ++ (c ∷ [])))
  where
    go : (t : Bool) → eqb c LF ≡ t → Rest b [] → Rest b (a ++ (c ∷ [])) →
        printed (at_end (fed_bytes (fed_byte (drilling w m (at n s a)) c) b)) ≡ output_after (lines_taken (between n (world w m s)) (cond t (a ∷ lines_from [] b) (lines_from (a ++ (c ∷ [])) b)))
    go true f r q =
        ap (λ (x : Drilling). printed (at_end (fed_bytes x b))) (one_byte n w m s a c true e f)
        ∙ next_line_lem b n (taken (line_of a) (world w m s)) r
        ∙ ap (λ (x : Between). output_after (lines_taken x (lines_from [] b))) (sym (one_line n w m s a e))
    go false f r q = ap (λ (x : Drilling). printed (at_end (fed_bytes x b))) (one_byte n w m s a c false e f) ∙ q n w m s e

pub by_lines : ByLines
unfolding ByLines drill_output start_between lines_of start_drilling start_drill Rest at began lines.fed_all is_bad
by_lines input = rest input [] 1 (blank 8192) (blank 70496) start_drill.state refl
