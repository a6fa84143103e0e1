use Rattle.std.proofs.Common.{Global, Vec}
use Rattle.ring_builder.proofs.Adding.{put_adds}
use Rattle.ring_builder.proofs.parts.put.Goals as goal
use Rattle.ring_builder.specs.declared.ring.Part.{Part}

pub returns-in_ok-push-in-Some : goal.returns-in_ok-push-in-Some
returns-in_ok-push-in-Some c =
    put_adds (λ (v : Vec Part Global). v.items) c.args.lists.now.items c.in-Some.k c.index_mut.result.now c.push.new.self c.args.part
    (c.requires c.in-Some.k c.in-Some.is) c.index_mut.ensures.value c.in_ok-push-in-Some.ensures.items c.args.owner c.in-Some.is
