pub mod MpTrie
