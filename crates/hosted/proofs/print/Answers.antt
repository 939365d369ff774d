use mathlib.Core.Path.{◌≡◌, refl}
use Prim.Native.Nat.{◌+◌, ◌≤◌}
use native.Mathlib.Omega.{arith}
use lib.ListN.{length}
use borrow.Author.Rules.{rules}
use Rattle.limits.specs.Book.{listing_bytes}
use Rattle.grammar.specs.Letters.{our_table}
use Rattle.grammar.specs.Bytes.{our_letters}
use Rattle.grammar.proofs.Letters.{our_table_lem}
use Rattle.hosting.specs.Print.{refusal_line}
use Rattle.hosting.proofs.Printing.{print_within, print_ours}
use Rattle.hosted.proofs.Ends.{print_end, line_room, print_line}
use Rattle.hosted.proofs.print.Goals.{After-list, After-number}
use Rattle.hosted.proofs.print.Goals as goal

exact : (c : After-list) → length c.args.out.now ≡ listing_bytes
exact c = search rules

-- there is room for the line of a refusal
room : (c : After-number) → length (refusal_line c.number.result c.in-Err.refused.line) + 1 ≤ length c.list.new.listing
room c = line_room _ _ (exact (goal.at.After-number c).After-list) c.in-Err.refused.cause c.in-Err.ensures.listed c.number.ensures

pub returns-in-Ok : goal.returns-in-Ok
returns-in-Ok c =
    let printed = print_ours _
    (print_end our_table our_table_lem _ _ (exact (goal.at.returns-in-Ok c).After-list) c.in-Ok.ensures.listed refl c.in-Ok.ensures.end) in
    record { printed = printed; within = omega (arith, print_within our_letters _ _ _ printed, c.list.auto.listing) }

pub put_refusal-end-requires : goal.put_refusal-end-requires
put_refusal-end-requires c = room (goal.at.put_refusal-end-requires c).After-number

pub clear-requires : goal.clear-requires
clear-requires c =
    let fits = room (goal.at.clear-requires c).After-number in
    let size = exact (goal.at.clear-requires c).After-list in (
      omega (arith, fits, size, c.put_refusal-end.ensures.next, c.list.auto.listing),
      omega (arith, size, c.list.auto.listing, c.put_refusal-end.auto.area),
    )

pub returns-in-Err-clause-printed : goal.returns-in-Err-clause-printed
returns-in-Err-clause-printed c =
    print_line _ _ (exact (goal.at.returns-in-Err-clause-printed c).After-list) c.in-Err.refused.cause c.in-Err.ensures.listed c.number.ensures
    c.put_refusal-end.ensures.next c.put_refusal-end.ensures.text _ c.clear.ensures

pub returns-in-Err-clause-within : goal.returns-in-Err-clause-within
returns-in-Err-clause-within c =
    omega (
      arith,
      room (goal.at.returns-in-Err-clause-within c).After-number,
      exact (goal.at.returns-in-Err-clause-within c).After-list,
      c.put_refusal-end.ensures.next,
      c.list.auto.listing,
    )
