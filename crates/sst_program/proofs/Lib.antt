mod EntryTexts
mod WordTexts
mod Results
mod TableFiles
