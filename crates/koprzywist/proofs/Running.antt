-- From sound stores the lines of a block do what the model's calls do, one after the other. Assumes nothing.
use mathlib.Core.Path.{◌≡◌, sym, ap, ◌∙◌, subst}
use mathlib.Core.List.{List}
use mathlib.Core.Option.{some}
use Prim.Native.Nat.{ℕ}
use Rattle.prefix.specs.Bits.{bits}
use Rattle.prefix.proofs.BitLaws.{length_bits}
use Rattle.tallies.specs.declared.Tallies.{Tallies}
use Rattle.model.specs.Model.{Limits}
use Rattle.model.specs.Routes.{announce, withdraw}
use Rattle.model.specs.Runs.{State, Call, look, update, step}
use Rattle.model.specs.Demands.{AlikeOutcome, LegalState, Full}
use Rattle.model.proofs.Legal.{legal_step}
use Rattle.model.proofs.SameRoutes.{step_same}
use Rattle.pairs.specs.Pairs.{limits_of}
use Rattle.pairs.specs.States.{state_of}
use Rattle.pairs.proofs.Pairing.{legal_pair}
use Rattle.script.specs.Blocks.{line_from}
use Rattle.script.specs.Lines.{line_of}
use Rattle.script.specs.declared.Line.{Line}
use Rattle.script.specs.declared.Line.TheVariants as line
use Rattle.answers.specs.declared.Said.{Said}
use Rattle.answers.specs.declared.Said.TheVariants as said
use Rattle.interpreter.specs.Lines.{meant, CallAnswered, LineAnswered}
use Rattle.interpreter.specs.declared.Answered.{Answered}
use Rattle.fib.specs.Runs.{Stores, Follows}
use Rattle.fib.proofs.Runs.{reached_alike}
use Rattle.koprzywist.specs.Blocks.{Lines, at_start, and_line, and_written}
use Rattle.koprzywist.specs.declared.Reached.{Reached}

abbrev stores : List ℕ → List ℕ → Tallies → Stores
stores table cache tallies = record { table = table; cache = cache; tallies = tallies }

-- ---- the model's state after a line, and after the lines of a block

unfoldable pub line_state : Limits → State → Line → State
line_state L s (line.Announce a n hop) = (step L s (update (bits 32 a) n (announce hop))).state
line_state L s (line.Withdraw a n) = (step L s (update (bits 32 a) n withdraw)).state
line_state L s (line.Look a) = (step L s (look (bits 32 a))).state
line_state L s line.Bad = s

unfoldable pub lines_state : {block table cache out : List ℕ} {r : Reached} {t c o : List ℕ} {p : Reached} → Limits → State → Lines block table cache out r t c o p → State
lines_state L s at_start = s
lines_state {block} L s (and_line {p = p} K S) = line_state L (lines_state L s K) (line_of (line_from block p.at))
lines_state L s (and_written K) = lines_state L s K

-- what is said of a line is what the model answers; the last is so of every line
unfoldable pub LineSaid : Limits → State → Line → Said → Type 0
LineSaid L s (line.Announce a n hop) x = meant x ≡ some (step L s (update (bits 32 a) n (announce hop))).answer
LineSaid L s (line.Withdraw a n) x = meant x ≡ some (step L s (update (bits 32 a) n withdraw)).answer
LineSaid L s (line.Look a) x = meant x ≡ some (step L s (look (bits 32 a))).answer
LineSaid L s line.Bad x = x ≡ said.Bad

unfoldable pub LinesSaid : {block table cache out : List ℕ} {r : Reached} {t c o : List ℕ} {p : Reached} → Limits → State → Lines block table cache out r t c o p → Type 0
LinesSaid L s at_start = Unit {0}
LinesSaid {block} L s (and_line {p = p} K S) =
    LinesSaid L s K × LineSaid L (lines_state L s K) (line_of (line_from block p.at)) S.taken.answered.said
LinesSaid L s (and_written K) = LinesSaid L s K

-- ---- one line

module _ {L : Limits} {table cache table' cache' : List ℕ} {t : Tallies} {x : Call} {z : State} (a : Answered)
    (A : CallAnswered table cache table' cache' t x a) (F : Follows L (stores table cache t) z) where
  legal : LegalState (limits_of table cache) z
  legal = subst (λ l. LegalState l z) (sym F.its_limits) F.legal

  same : AlikeOutcome (step (limits_of table cache) (state_of table cache t) x) (step (limits_of table cache) z x)
  same = step_same (limits_of table cache) (state_of table cache t) z x (legal_pair F.sound) legal F.alike

  call_says : meant a.said ≡ some (step L z x).answer
  call_says = subst (λ l. meant a.said ≡ some (step l z x).answer) F.its_limits (A.answer ∙ ap some same.same_answer)

  call_follows : Full (limits_of table cache) x → Follows L (stores table' cache' a.tallies) (step L z x).state
  call_follows full =
      subst (λ l. Follows l (stores table' cache' a.tallies) (step l z x).state) F.its_limits
      (record {
        sound = A.sound;
        its_limits = rw (A.table_kept.0, A.cache_kept.0);
        alike = reached_alike A.state same.still_alike;
        legal = legal_step (limits_of table cache) z x full legal;
      })

module _ {L : Limits} {table cache : List ℕ} (table' cache' : List ℕ) {t : Tallies} {z : State} where
  line_follows : (l : Line) (a : Answered) → LineAnswered table cache table' cache' t l a → Follows L (stores table cache t) z → Follows L (stores table' cache' a.tallies) (line_state L z l)
  unfolding line_state
  line_follows (line.Announce x n hop) a A F = call_follows a (A F.sound) F tt
  line_follows (line.Withdraw x n) a A F = call_follows a (A F.sound) F tt
  line_follows (line.Look x) a A F = call_follows a (A F.sound) F (length_bits 32 x)
  line_follows line.Bad a A F = rw (A.0, A.1, A.2) F

  line_says : (l : Line) (a : Answered) → LineAnswered table cache table' cache' t l a → Follows L (stores table cache t) z → LineSaid L z l a.said
  unfolding LineSaid
  line_says (line.Announce x n hop) a A F = call_says a (A F.sound) F
  line_says (line.Withdraw x n) a A F = call_says a (A F.sound) F
  line_says (line.Look x) a A F = call_says a (A F.sound) F
  line_says line.Bad a A F = ap (λ (b : Answered). b.said) A.0

-- ---- the lines of a block

-- the stores and the tallies are those of the model's run of the lines
pub lines_follow : {L : Limits} {block table cache out : List ℕ} {r : Reached} {t c o : List ℕ} {p : Reached} {z : State}
    (K : Lines block table cache out r t c o p)
    → Follows L (stores table cache r.tallies) z
    → Follows L (stores t c p.tallies) (lines_state L z K)
unfolding lines_state
lines_follow at_start F = F
lines_follow {L} {block} {z = z} (and_line {t' = t'} {c' = c'} {p = p} K S) F =
    let T = S.taken in
    subst (λ k. Follows L (stores t' c' k) (line_state L (lines_state L z K) (line_of (line_from block p.at)))) (sym T.are_tallies)
    (line_follows t' c' (line_of (line_from block p.at)) T.answered T.answer (lines_follow K F))
lines_follow (and_written K) F = lines_follow K F

-- and so are the answers
pub lines_say : {L : Limits} {block table cache out : List ℕ} {r : Reached} {t c o : List ℕ} {p : Reached} {z : State}
    (K : Lines block table cache out r t c o p)
    → Follows L (stores table cache r.tallies) z
    → LinesSaid L z K
unfolding LinesSaid
lines_say at_start F = tt
lines_say {L} {block} (and_line {t' = t'} {c' = c'} {p = p} K S) F =
    (lines_say K F, line_says t' c' (line_of (line_from block p.at)) S.taken.answered S.taken.answer (lines_follow K F))
lines_say (and_written K) F = lines_say K F
