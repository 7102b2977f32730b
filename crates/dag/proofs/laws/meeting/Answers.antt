use Rattle.dag.proofs.Meetings.{exactly_one_meeting, exactly_one_stand, parallel-block}
use Rattle.dag.proofs.laws.meeting.Goals as goal

pub returns : goal.returns
returns c = record {
  meets = λ w records depths i j h p l. exactly_one_meeting w h i j p l;
  stands = λ w records depths m j h p a. exactly_one_stand w h m j p a;
  parallel = λ w records depths i j m h p q l a. parallel-block w h i j m p q l a;
}
