use borrow.Author.Rules.{rules}
use Rattle.listing.proofs.Whole.{Begun, head_room, names_room, area_fits, listing_done}
use Rattle.listing.proofs.write.Goals.{After-name_count}
use Rattle.listing.proofs.write.Goals as goal

-- nothing is put yet
begins : (c : After-name_count)
    → Begun c.args.book.now c.args.folds c.args.rounds c.name_count.result c.count_held-held.result c.args.listing.now c.new-text.result
begins c =
    record {
      few_folds = c.requires.0;
      few_rounds = c.requires.1;
      long = c.requires.2;
      all = c.name_count.ensures.count;
      few = c.name_count.ensures.bound;
      counted = c.count_held-held.ensures;
      front = c.new-text.ensures.end;
      empty = c.new-text.ensures.area;
    }

pub put_head-requires : goal.put_head-requires
put_head-requires c = head_room (begins (goal.at.put_head-requires c).After-name_count)

pub put-requires : goal.put-requires
put-requires c = names_room (begins (goal.at.put-requires c).After-name_count) c.put_head.ensures

pub clear-requires : goal.clear-requires
clear-requires c =
    area_fits (begins (goal.at.clear-requires c).After-name_count) c.put_head.ensures c.put.ensures c.end-end.ensures (search rules)

pub returns : goal.returns
returns c =
    listing_done (begins (goal.at.returns c).After-name_count) c.put_head.ensures c.put.ensures c.end-end.ensures (search rules) _ c.clear.ensures
