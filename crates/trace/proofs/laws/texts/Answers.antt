use Rattle.trace.proofs.Readability.{text_injective, version_of_text, one_first_fault, one_fault, no_fault_of_text, no_fault_in_front}
use Rattle.trace.proofs.Cuttings.{read_alike, first_fault_more, only_read}
use Rattle.trace.proofs.laws.texts.Goals as goal

pub returns : goal.returns
returns c = record {
  one_trace = λ v x u w hu hw e. (version_of_text v x u w e, text_injective v x u w hu hw e);
  any_cutting = λ u w bytes s t h k. read_alike u w bytes s t h k;
  one_first_fault = λ records depths bytes f g h k. one_first_fault records depths bytes f g h k;
  first_stays = λ records depths bytes more f h. first_fault_more records depths bytes more f h;
  one_fault = λ records depths bytes f g h k. one_fault records depths bytes f g h k;
  none = λ records depths v w f fit h fault. no_fault_of_text records depths v w f fit h fault;
  none_in_front = λ records depths v w bytes more f fit h e first. no_fault_in_front records depths v w bytes more f fit h e first;
  only_read = λ records depths v u w bytes left c feed f hu h e is fed. only_read records depths v u w bytes left c feed f hu h e is fed;
}
