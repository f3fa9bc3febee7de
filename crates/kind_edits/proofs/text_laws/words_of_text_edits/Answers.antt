use Rattle.kind_edits.proofs.Wording.{delete_read, delete_reads, insert_read, insert_reads, mark_read, mark_reads}
use Rattle.kind_edits.proofs.text_laws.words_of_text_edits.Goals as goal

pub returns : goal.returns
returns c = record {
  insert = λ words text index. (λ h. insert_read words index text h, λ h. insert_reads words index text h);
  delete = λ words index. (λ h. delete_read words index h, λ h. delete_reads words index h.0 h.1);
  mark = λ names words m apart. (λ h. mark_read names words m h, λ h. mark_reads names words m apart h);
}
