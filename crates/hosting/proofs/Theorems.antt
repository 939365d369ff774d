-- Demands 1 and 3 as a host sees them, each one claim of specs/Claims.antt, for any folding table that passes; and for ours.
-- Assumes nothing.
use mathlib.Core.Path.{◌≡◌, refl, sym, ap₂, ◌∙◌}
use mathlib.Core.List.{List, [], ◌∷◌, ◌++◌}
use Prim.Native.Nat.{ℕ}
use native.Mathlib.Omega.{arith}
use lib.ListN.{length}
use Rattle.limits.specs.Book.{folds, listing_bytes}
use Rattle.grammar.specs.Bytes.{Bytes, line_end, letters}
use Rattle.grammar.specs.Letters.{FoldTable, our_table}
use Rattle.grammar.specs.Grammar.{joined}
use Rattle.grammar.proofs.Letters.{our_table_lem}
use Rattle.hosting.specs.List.{ListOutcome, list_call}
use Rattle.hosting.specs.Call.{host_call}
use Rattle.hosting.specs.Print.{refusal_line}
use Rattle.hosting.specs.Claims.{Prints, Hosts}
use Rattle.hosting.proofs.Range.{list_range}
use Rattle.hosting.proofs.Printing.{area_is, printed_line, text_nonzero}
use Rattle.hosting.proofs.Judging.{same_one, none_refused, call_judges}
use Rattle.hosting.proofs.Listing.{call_lists}
use Rattle.hosting.proofs.Sizes.{call_sizes}

module _ (table : List ℕ) (passes : FoldTable table) where
  -- what is printed, by the call in any area of the stated size
  prints_in : (t old : Bytes) → length old ≡ listing_bytes → Prints (letters table) t (host_call table t folds old)
  unfolding host_call joined
  prints_in t old exact =
      let r : ListOutcome = list_call table t folds old in
      record {
        listed = λ z. area_is table passes t old exact r refl (none_refused table passes t folds old z);
        text = text_nonzero table passes t old exact r refl;
        refused = λ q line some l e.
            let w = same_one r.number r.line q line (omega (arith, (list_range table t folds old).1)) l e in
            printed_line table passes t old exact r refl (λ z. some (sym w.0 ∙ z))
            ∙ ap₂ (λ (n i : ℕ). refusal_line n i ++ (line_end ∷ [])) w.0 w.1;
      }

pub hosts : (table : List ℕ) → FoldTable table → Hosts table
hosts table passes =
    record { judges = call_judges table passes; lists = call_lists table passes; prints = prints_in table passes; sizes = call_sizes table }

-- as the calls' contracts have them
pub hosts_listed : Hosts our_table
hosts_listed = hosts our_table our_table_lem
