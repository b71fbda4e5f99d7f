-- Set-up leaves a sound table with no routes. Assumes nothing.
use mathlib.Core.Path.{◌≡◌, sym, ap, ◌∙◌}
use mathlib.Core.List.{List, []}
use mathlib.Core.Option.{none, some, none-ne-some}
use Prim.Native.Nat.{ℕ, ◌≤◌}
use native.Mathlib.Omega.{arith}
use lib.ListN.{length}
use Rattle.sizes.specs.Sizes.{LegalLimit, table_need}
use Rattle.std.specs.Prelude.{Result}
use Rattle.sizes.specs.declared.SetupError.{SetupError}
use Rattle.sizes.specs.BothStores.{SetUp, Fresh}
use Rattle.sizes.proofs.SetUpLaws.{set_up_makes}
use Rattle.trie.specs.Trie.{Cell, Root, Kid, Trie, Inside, Points, Sound, Dense}
use Rattle.trie.specs.Routes.{routes_of}
use Rattle.nodes.specs.Layout.{trie_of}
use Rattle.nodes.specs.Stores.{emptied}
use Rattle.nodes.specs.Headers.{Emptied}
use Rattle.nodes.proofs.Keeping.{empty_header, empty_shaped, empty_past}
use Rattle.nodes.proofs.Spelling.{empty_root}
use Rattle.table.specs.Tables.{routes, EmptyTable, TableSetUp}

-- no slot is live, and the root cell is empty
empty_sound : (m : ℕ) (v : Trie) → m ≡ 0 → v.child Root ≡ none → Sound (Dense m) v
empty_sound m v z e = record { points = points; owned = λ j l. absurd (omega arith) }
  where
    points : (c : Cell) (j : ℕ) → Inside (Dense m) c → v.child c ≡ some j → Points (Dense m) v c j
    points Root j i h = absurd (none-ne-some j (sym e ∙ h))
    points (Kid a b) j i h = absurd (omega arith)

fresh : (w : List ℕ) (limit : ℕ) → LegalLimit limit → table_need limit ≤ length w → Fresh table_need EmptyTable w (emptied w limit) limit
unfolding routes routes_of
fresh w limit legal enough =
    let h = empty_header w limit (omega arith) in
    let none_held : routes (emptied w limit) ≡ [] = ap (routes_of (trie_of (emptied w limit))) h.nodes_are in
    record {
      is_empty = (
        record {
          shaped = empty_shaped w limit legal enough;
          plain = record { short = λ p a b. absurd (omega arith); celled = λ p a b. absurd (omega arith) };
          trie = empty_sound _ _ h.nodes_are (empty_root w limit (omega arith));
          branches = λ i l. absurd (omega arith);
          hops = λ k x l. absurd (omega arith);
          counted = h.routes_are ∙ sym (ap length none_held);
        },
        none_held,
      );
      its_limit = h.limit_is;
      past_kept = empty_past w limit;
    }

pub table_set_up : (w w' : List ℕ) (limit : ℕ) (r : Result (Unit {0}) SetupError) → SetUp table_need Emptied w w' limit r → TableSetUp w w' limit r
table_set_up w w' limit r = set_up_makes table_need Emptied (Fresh table_need EmptyTable) w w' limit r (λ legal enough e. rw e (fresh w limit legal enough))
