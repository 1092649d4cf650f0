-- The paths of the functions that convert an input as it comes.
use Rattle.std.specs.Prelude.{ℕ, ◌-◌, ◌≤◌, ◌<◌, Bool, true, false, cond, List, ◌≡◌, ◌||◌, refl, leb, ltb, length, take, Result, Ok, Err}
use Rattle.std.proofs.Common.{sym, ◌∙◌, arith, length-take, le-leb, true≢false}
use Rattle.std.proofs.Math.Path.{ap}
use Rattle.std.proofs.Math.ListN.{length-drop}
use Rattle.std.proofs.lemmas.Bool.{lt-leb}
use Rattle.delivery_csv.specs.Fields.{Outcome, bad, good}
use Rattle.delivery_csv.specs.Converting.{conversion, bytes_after}
use Rattle.delivery_csv.specs.Parts.{ended_part}
use Rattle.delivery_csv.specs.Stream.{converted, Output, output_of, ended_length, ended_output, ended_progress, last_progress}
use Rattle.delivery_csv.specs.laws.Outcomes.{not_good}
use Rattle.delivery_csv.specs.laws.PartsEnded.{parts_ended}
use Rattle.delivery_csv.specs.laws.Progress.{refused_progress, Whole, whole, Broken, broken, part_count, before_text, before_count, is_bad_lem, Fits, is_good, Over-full, is_short}
use Rattle.delivery_csv.specs.declared.ConversionError.{ConversionError}
use Rattle.delivery_csv.specs.declared.ConversionError.TheVariants as errors
use Rattle.delivery_csv.specs.declared.parts.Part.{Part}
use Rattle.delivery_csv.specs.declared.stream.Progress.{Progress}
use Rattle.delivery_csv.specs.declared.stream.Stop.{Stop}
use Rattle.delivery_csv.specs.declared.stream.Stop.TheVariants.{Short, Refused}

same_text : (u v : List ℕ) → ◌≡◌ {A = Outcome (List ℕ)} (good u) (good v) → u ≡ v
same_text u v e = cc

-- ---- parts

module _ (quotes : Bool) (t : List ℕ) (most : ℕ) (part : Part) (p : part ≡ ended_part quotes t most) where
  pub part_fits : part.length ≤ length t
  part_fits = rw p (parts_ended.within quotes t most)

  pub part_size : part.length ≡ length (take part.length t)
  part_size = let h : part.length ≤ length t = part_fits in sym (simp length-take (omega arith))

-- ---- before a record or line that is not taken

module _ (quotes : Bool) (t : List ℕ) (n : ℕ) (e : converted quotes t ≡ bad n) (part : Part) (p : part ≡ ended_part quotes t (n - 1)) where
  front_text : converted quotes (take part.length t) ≡ good (output_of quotes t).text
  front_text = rw p (before_text quotes t n e)

  module _ (room : ℕ) (x : Result ℕ ConversionError) (c : x ≡ conversion (converted quotes (take part.length t)) room) where
    pub before_error : (d : ConversionError) → x ≡ Err d → Short ≡ refused_progress (output_of quotes t) room
    unfolding refused_progress
    before_error (errors.Record m) q = not_good m (output_of quotes t).text (sym (is_bad_lem _ room m (sym q ∙ c)) ∙ front_text)
    before_error errors.Short q =
        let h : Over-full (converted quotes (take part.length t)) room = is_short _ room (sym q ∙ c) in
        let u : h.text ≡ (output_of quotes t).text = same_text _ _ (sym h.is ∙ front_text) in
        rw (← u, h.over)

    pub before_written : (w : ℕ) → x ≡ Ok w → Refused w part.count ≡ refused_progress (output_of quotes t) room
    unfolding refused_progress
    before_written w q =
        let h : Fits (converted quotes (take part.length t)) room w = is_good _ room w (sym q ∙ c) in
        let u : h.text ≡ (output_of quotes t).text = same_text _ _ (sym h.is ∙ front_text) in
        let k : part.count ≡ (output_of quotes t).count = rw p (before_count quotes t n e) in
        rw (← u, h.fits, h.size, k)

  pub before_bytes : (s z : List ℕ) → z ≡ bytes_after (converted quotes (take part.length t)) s → z ≡ bytes_after (good (output_of quotes t).text) s
  before_bytes s z h = h ∙ rw front_text

pub ruleset befores = (before_error, before_written, before_bytes)

-- ---- all that is there

module _ (quotes : Bool) (t : List ℕ) (room : ℕ) (x : Result ℕ ConversionError) (c : x ≡ conversion (converted quotes t) room) where
  pub refused_is : (n : ℕ) (d : ConversionError) → x ≡ Err d → d ≡ errors.Record n → converted quotes t ≡ bad n
  refused_is n d q r = is_bad_lem (converted quotes t) room n (sym (rw r at q) ∙ c)

  -- the first attempt leaves the lent bytes
  bytes_left : (n : ℕ) (d : ConversionError) → x ≡ Err d → d ≡ errors.Record n → (s a : List ℕ) → a ≡ bytes_after (converted quotes t) s → a ≡ s
  unfolding bytes_after
  bytes_left n d q r s a h = h ∙ rw (refused_is n d q r)

  -- what holds of an output whose text is taken
  record Room (w : ℕ) : Type 0 where
    text : converted quotes t ≡ good (output_of quotes t).text
    size : length (output_of quotes t).text ≡ w
    fits : ltb room (length (output_of quotes t).text) ≡ false
    taken : (output_of quotes t).refused ≡ false

  written_room : (w : ℕ) → x ≡ Ok w → Room w
  written_room w q =
      let h : Fits (converted quotes t) room w = is_good _ room w (sym q ∙ c) in
      let k : Whole quotes t h.text = whole quotes t h.text h.is in
      record { text = h.is ∙ ap good (sym k.text); size = ap length k.text ∙ h.size; fits = rw k.text h.fits; taken = k.taken }

  record Full : Type 0 where
    text : converted quotes t ≡ good (output_of quotes t).text
    over : ltb room (length (output_of quotes t).text) ≡ true

  short_full : (d : ConversionError) → x ≡ Err d → d ≡ errors.Short → Full
  short_full d q r =
      let h : Over-full (converted quotes t) room = is_short _ room (sym (rw r at q) ∙ c) in
      let k : Whole quotes t h.text = whole quotes t h.text h.is in
      record { text = h.is ∙ ap good (sym k.text); over = rw k.text h.over }

  pub written_bytes : (w : ℕ) → x ≡ Ok w → (s z : List ℕ) → z ≡ bytes_after (converted quotes t) s → z ≡ bytes_after (good (output_of quotes t).text) s
  written_bytes w q s z h = h ∙ rw (written_room w q).text

  pub short_bytes : (d : ConversionError) → x ≡ Err d → d ≡ errors.Short → (s z : List ℕ) → z ≡ bytes_after (converted quotes t) s → z ≡ bytes_after (good (output_of quotes t).text) s
  short_bytes d q r s z h = h ∙ rw (short_full d q r).text

  pub refused_bytes : (n : ℕ) (d : ConversionError) → x ≡ Err d → d ≡ errors.Record n → (s a z : List ℕ) → a ≡ bytes_after (converted quotes t) s →
      z ≡ bytes_after (good (output_of quotes t).text) a → z ≡ bytes_after (good (output_of quotes t).text) s
  refused_bytes n d q r s a z h k = k ∙ rw (bytes_left n d q r s a h)

  pub last_short : (d : ConversionError) → x ≡ Err d → d ≡ errors.Short → Err Short ≡ last_progress (output_of quotes t) room
  unfolding last_progress
  last_short d q r = rw (short_full d q r).over

  pub last_written : (w : ℕ) → x ≡ Ok w → Ok w ≡ last_progress (output_of quotes t) room
  unfolding last_progress
  last_written w q = let h : Room w = written_room w q in rw (h.fits, h.taken, h.size)

pub last_refused : (quotes : Bool) (t s a : List ℕ) (x : Result ℕ ConversionError) (n : ℕ) (d : ConversionError) (r : Stop) →
    x ≡ conversion (converted quotes t) (length s) → x ≡ Err d → d ≡ errors.Record n →
    a ≡ bytes_after (converted quotes t) s → r ≡ refused_progress (output_of quotes t) (length a) → Err r ≡ last_progress (output_of quotes t) (length s)
unfolding last_progress refused_progress
last_refused quotes t s a x n d r c q w h k =
    let e : Broken quotes t n = broken quotes t n (refused_is quotes t (length s) x c n d q w) in
    rw (k, bytes_left quotes t (length s) x c n d q w s a h, e.refused) (go (ltb (length s) (length (output_of quotes t).text)))
  where
    go : (b : Bool) → ◌≡◌ {A = Result ℕ Stop} (Err (cond b Short (Refused (length (output_of quotes t).text) (output_of quotes t).count)))
        (cond b (Err Short) (Err (Refused (length (output_of quotes t).text) (output_of quotes t).count)))
    go true = refl
    go false = refl

pub ruleset lasts = (written_bytes, short_bytes, refused_bytes, last_short, last_written, last_refused)

-- ---- the ended part of what is there

-- where no record or line is refused the text is taken
taken : (quotes : Bool) (t : List ℕ) → (output_of quotes t).refused ≡ false → converted quotes t ≡ good (output_of quotes t).text
taken quotes t h = go (converted quotes t) refl
  where
    go : (o : Outcome (List ℕ)) → converted quotes t ≡ o → o ≡ good (output_of quotes t).text
    go (bad n) e = absurd (true≢false (sym (broken quotes t n e).refused ∙ h))
    go (good u) e = ap good (sym (whole quotes t u e).text)

counted_part : (quotes : Bool) (t : List ℕ) (part : Part) → part ≡ ended_part quotes t (length t) → {u : List ℕ} → converted quotes (take part.length t) ≡ good u →
    (output_of quotes (take part.length t)).count ≡ part.count
counted_part quotes t part p {u} = rw p (part_count quotes t u (length t))

module _ (quotes : Bool) (t : List ℕ) (part : Part) (p : part ≡ ended_part quotes t (length t)) where
  abbrev front : Output
  front = output_of quotes (take part.length t)

  part_length : part.length ≡ ended_length quotes t
  unfolding ended_length
  part_length = ap (λ (q : Part). q.length) p

  ended_text : front.text ≡ (ended_output quotes t).text
  unfolding ended_output
  ended_text = ap (λ (k : ℕ). (output_of quotes (take k t)).text) part_length

  pub ended_bytes : (s z : List ℕ) → z ≡ bytes_after (good front.text) s → z ≡ bytes_after (good (ended_output quotes t).text) s
  ended_bytes s z h = h ∙ rw ended_text

  -- the count of what is taken is that of the part
  counted : front.refused ≡ false → front.count ≡ part.count
  counted h = counted_part quotes t part p (taken quotes (take part.length t) h)

  -- the rest is long or not
  ended_is : (room : ℕ) (l : Bool) → leb 4096 (length t - part.length) ≡ l →
      ended_progress (ended_output quotes t) (ended_length quotes t) room
      ≡ cond (ltb room (length front.text)) (Err Short)
      (cond (front.refused || l) (Err (Refused (length front.text) front.count)) (Ok (record { written = length front.text; length = part.length; count = front.count })))
  unfolding ended_progress ended_output
  ended_is room l e = rw (← part_length, length-drop part.length t, e)

  module _ (room : ℕ) where
    pub ended_stop : (e : Stop) → Err e ≡ last_progress front room → Err e ≡ ended_progress (ended_output quotes t) (ended_length quotes t) room
    unfolding last_progress
    ended_stop e h = rw (ended_is room (leb 4096 (length t - part.length)) refl) (go (ltb room (length front.text)) front.refused h)
      where
        go : (b r : Bool) → Err e ≡ cond b (Err Short) (cond r (Err (Refused (length front.text) front.count)) (Ok (length front.text))) →
            ◌≡◌ {A = Result Progress Stop} (Err e) (cond b (Err Short)
            (cond (r || leb 4096 (length t - part.length)) (Err (Refused (length front.text) front.count)) (Ok (record { written = length front.text; length = part.length; count = front.count }))))
        go true r h = cc
        go false true h = cc
        go false false h = cc

    record Ended (w : ℕ) : Type 0 where
      size : length front.text ≡ w
      fits : ltb room (length front.text) ≡ false
      whole : front.refused ≡ false

    is_ended : (w : ℕ) → Ok w ≡ last_progress front room → Ended w
    unfolding last_progress
    is_ended w h = go (ltb room (length front.text)) front.refused refl refl h
      where
        go : (b r : Bool) → ltb room (length front.text) ≡ b → front.refused ≡ r →
            Ok w ≡ cond b (Err Short) (cond r (Err (Refused (length front.text) front.count)) (Ok (length front.text))) → Ended w
        go true r f g h = cc
        go false true f g h = cc
        go false false f g h = record { size = cc; fits = f; whole = g }

    pub ended_long : (w : ℕ) → Ok w ≡ last_progress front room → 4096 ≤ length t - part.length →
        Err (Refused w part.count) ≡ ended_progress (ended_output quotes t) (ended_length quotes t) room
    ended_long w h l =
        let k : Ended w = is_ended w h in
        rw (ended_is room true (le-leb 4096 (length t - part.length) l), k.fits, k.whole, k.size, counted k.whole)

    pub ended_on : (w : ℕ) → Ok w ≡ last_progress front room → length t - part.length < 4096 →
        Ok (record { written = w; length = part.length; count = part.count }) ≡ ended_progress (ended_output quotes t) (ended_length quotes t) room
    ended_on w h l =
        let k : Ended w = is_ended w h in
        rw (ended_is room false (lt-leb 4096 (length t - part.length) l), k.fits, k.whole, k.size, counted k.whole)

pub ruleset endeds = (ended_bytes, ended_stop, ended_long, ended_on)
